-- What an entry of the thread table means: whether the thread has an open job, and the records of
-- the job's undo log, oldest first.
use Rattle.std.specs.Prelude.{ℕ, Bool, true, false, cond, List, [], is_some}
use Rattle.record_log.specs.Latest.{latest_of}
use Rattle.record_log.specs.Records.{records_of, pushed}
use Rattle.threads.specs.declared.entry.Entry.{Entry}
use Rattle.threads.specs.declared.entry.State.{State}
use Rattle.threads.specs.declared.entry.State.TheVariants.{Idle, Open}
use Rattle.threads.specs.declared.record.Undo.{Undo}

pub record View : Type 0 where
  pub is_open : Bool
  pub undo : List Undo

abbrev pub open_in : State → Bool
open_in Idle = false
open_in Open = true

abbrev pub entry_of : Entry → View
entry_of e = record { is_open = open_in e.state; undo = records_of e.undo }

-- no job, and no records
abbrev pub idle : View
idle = record { is_open = false; undo = [] }

-- an open job that has stored nothing
abbrev pub begun : View
begun = record { is_open = true; undo = [] }

-- there is a record for the address
abbrev pub logged_in : List Undo → ℕ → Bool
logged_in us a = is_some (latest_of (λ u. u.address) a us)

-- the log after an old word is noted: one record more at its end, unless it has the address or is full
abbrev pub noted : List Undo → ℕ → ℕ → List Undo
noted us a w = cond (logged_in us a) us (pushed 64 us record { address = a; old = w })

abbrev pub noted_in : View → ℕ → ℕ → View
noted_in v a w = record { is_open = v.is_open; undo = noted v.undo a w }
