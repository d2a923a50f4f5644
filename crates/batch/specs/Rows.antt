-- What a batch shows of its report.
use Rattle.std.specs.Prelude.{ℕ, List, take}
use Rattle.batch.specs.declared.Batch.{Batch}

-- the bytes up to the fill mark
abbrev pub rows_in : Batch → List ℕ
rows_in b = take b.fill b.report
