-- A row of the program, without where its texts and lists lie in memory.
use Rattle.teal_table.specs.declared.table_row.Row.{Row as Kept}
use Rattle.teal_table.specs.Table.{Row}

abbrev pub shown : Kept → Row
shown row = record {
  opcode = row.opcode;
  code = row.code;
  name = row.name.now;
  immediates = row.immediates;
  cost = row.cost;
  version = row.version;
  pops = row.pops.now;
  pushes = row.pushes.now;
}
