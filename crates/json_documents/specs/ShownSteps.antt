-- Steps of the program, without where their names lie in memory.
use Rattle.std.specs.Prelude.{ℕ, List, map}
use Rattle.std.specs.Borrow.{Bor}
use Rattle.json_documents.specs.declared.step.Step.{Step as WrittenStep}
use Rattle.json_documents.specs.declared.step.Step.TheVariants as written
use Rattle.json_documents.specs.Steps.{Step, at_name, at_index}

abbrev pub step_shown : WrittenStep → Step
step_shown (written.Name name) = at_name name.now
step_shown (written.Index i) = at_index i

abbrev pub steps_shown : List WrittenStep → List Step
steps_shown steps = map step_shown steps

abbrev pub names_shown : List (Bor (List ℕ)) → List (List ℕ)
names_shown names = map (λ (name : Bor (List ℕ)). name.now) names
