-- The texts of faults.
use Rattle.std.specs.Prelude.{ℕ, List, codes}
use Rattle.market_rows.specs.declared.faults.RowFault.{RowFault}
use Rattle.market_rows.specs.declared.faults.RowFault.TheVariants.{Bad, OutOfMemory}

abbrev pub row_fault_text : RowFault → List ℕ
row_fault_text Bad = codes "no row"
row_fault_text OutOfMemory = codes "out of memory"
