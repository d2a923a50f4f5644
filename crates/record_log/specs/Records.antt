-- The meaning of a log: its records, oldest first.
use Rattle.std.specs.Prelude.{ℕ, cond, List, [], ◌∷◌, ◌++◌, length, take, Ok, Err, Result, nat_lt}
use Rattle.record_log.specs.declared.Full.{Full}
use Rattle.record_log.specs.declared.Log.{Log}

abbrev pub records_of : {R : Type 0} {n : ℕ} → Log R n → List R
records_of l = take l.count l.items

-- a push onto a log with room for n records: one more at the end, unless it is full
abbrev pub pushed : {R : Type 0} → ℕ → List R → R → List R
pushed n rs r = cond (nat_lt (length rs) n) (rs ++ r ∷ []) rs

abbrev pub push_answer : {R : Type 0} → ℕ → List R → Result (Unit {0}) Full
push_answer n rs = cond (nat_lt (length rs) n) (Ok tt) (Err record {})
