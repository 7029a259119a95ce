-- What a program does for the words of its command line, with what a reader had and a writer holds. Generic in its commands,
-- in what each replies to an input, and in the usage line.
use Rattle.std.specs.Prelude.{◌≡◌, ◌≢◌, ◌+◌, ℕ, ◌++◌, List, Option, Some, None, IfSome, length, ◌⊎◌, ◌<◌, ◌≤◌, take}
use Rattle.std.specs.Io.KnownBytes.{Appends}
use Rattle.avm_input.specs.Replies.{Reply, failed, input_refusal}

-- how many bytes an input has at most
abbrev pub input_limit : ℕ
input_limit = 16777216

-- What a command answers to its input. More than the limit is refused before all else.
pub record IsReplyTo (replies : List ℕ → Reply → Type 0) (input : List ℕ) (reply : Reply) : Type 0 where
  pub long : input_limit < length input → reply ≡ input_refusal
  pub other : length input ≤ input_limit → replies input reply

-- The bytes are those that a reader had, where these are known: all up to the limit, and one beyond it.
abbrev pub IsInput : Option (List ℕ) → List ℕ → Type 0
IsInput had input = IfSome had (λ bytes. input ≡ take (input_limit + 1) bytes)

-- the reply of a command to what the reader had
abbrev pub IsReply : (List ℕ → Reply → Type 0) → Option (List ℕ) → Reply → Type 0
IsReply replies had reply = (input : List ℕ) × IsInput had input × IsReplyTo replies input reply

-- a writer, which held the first and holds the second bytes where these are known, gained the reply's text, and this is its status
abbrev pub IsWritten : Reply → Option (List ℕ) → Option (List ℕ) → ℕ → Type 0
IsWritten reply held holds status = (status ≡ reply.status) × Appends held holds reply.text

-- it gained a beginning of the text
abbrev pub HasBeginning : List ℕ → Option (List ℕ) → Option (List ℕ) → Type 0
HasBeginning text held holds = (written : List ℕ) × (rest : List ℕ) × (text ≡ written ++ rest) × Appends held holds written

abbrev pub IsBegun : Reply → Option (List ℕ) → Option (List ℕ) → Type 0
IsBegun reply held holds = HasBeginning reply.text held holds

-- What the words do to what a reader had and to a writer: unless there was a failure, the usage line or the command's reply was
-- written.
abbrev pub CommandAnswers : {C : Type 0} → Reply → (C → List ℕ → Reply → Type 0) → Option C → Option (List ℕ) → Option (List ℕ) → Option (List ℕ) → ℕ → Type 0
CommandAnswers usage replies None had held holds status = status ≢ failed → IsWritten usage held holds status
CommandAnswers usage replies (Some command) had held holds status = status ≢ failed
    → (reply : Reply) × IsReply (replies command) had reply × IsWritten reply held holds status

-- After a failure nothing was written, or a beginning of the usage line or of the command's reply.
abbrev pub CommandFails : {C W : Type 0} → Reply → (C → List ℕ → Reply → Type 0) → Option C → Option (List ℕ) → Option (List ℕ) → Option (List ℕ) → W → W → Type 0
CommandFails usage replies None had held holds writer after = (after ≡ writer) ⊎ IsBegun usage held holds
CommandFails usage replies (Some command) had held holds writer after = (after ≡ writer) ⊎ ((reply : Reply) × IsReply (replies command) had reply × IsBegun reply held holds)
