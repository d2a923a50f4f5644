-- A replay that has come as far as one turn of its list.
use Rattle.std.proofs.Common.{◌≡◌, ℕ, ◌+◌, ◌<◌, ◌≤◌, List, [], ◌∷◌, ◌++◌, map, reverse, length, get_or, take, drop, set, Some, Result, sym, refl, ap, ◌∙◌, subst, arith}
use Rattle.std.proofs.lemmas.List.{take_all, take_more, take_more_set, drop-set-lt, drop-drop, get_or-drop, map_push, reverse-append}
use Rattle.fault.specs.declared.Fault.{Fault}
use Rattle.book.specs.Holdings.{Holdings}
use Rattle.book.specs.Moves.{Move}
use Rattle.store.specs.States.{state_of}
use Rattle.store.specs.Histories.{History, Told}
use Rattle.store.specs.Moved.{Releases, Leaves}
use Rattle.store.specs.Reached.{Reached, Carries}
use Rattle.store.specs.Promises.{Travelled, start, onward, slot_of, Replayed}
use Rattle.store.specs.declared.Answer.{Answer}
use Rattle.store.specs.declared.Call.{Call}
use Rattle.store.specs.declared.Store.{Store}
use Rattle.store.specs.declared.Turn.{Turn}
use Rattle.store.proofs.Promised.{promised}

abbrev call_in : Turn → Call
call_in t = t.call

module _ {M B : Type 0} (words : M → List ℕ) (beyond : M → List (List ℕ)) (holding : B → Holdings) (R : B → Move → B → Type 0) where
  -- the first i turns of `before` are made, from the fresh store `first`
  pub record Sofar (first : Store M B) (before now : List Turn) (i : ℕ) (store : Store M B) : Type 0 where
    pub history : History
    pub done : take i now ≡ map slot_of (reverse history)
    pub rest : drop i now ≡ drop i before
    pub calls : map (λ (t : Turn). t.call) (take i now) ≡ map (λ (t : Turn). t.call) (take i before)
    pub reached : Reached (words first.memory) history (state_of words holding store)
    pub untouched : beyond store.memory ≡ beyond first.memory
    pub travelled : Travelled holding R first.book history store.book

  pub sofar_none : (first : Store M B) (before : List Turn) → Reached (words first.memory) [] (state_of words holding first) → Sofar first before before 0 first
  sofar_none first before reached =
      record { history = []; done = refl; rest = refl; calls = refl; reached = reached; untouched = refl; travelled = start }

  module _ (first : Store M B) (before now : List Turn) (i : ℕ) (d : Turn) (store store' : Store M B) (r : Result Answer Fault) (lt : i < length now) (same : length now ≡ length before) where
    made : Told
    made = record { call = (get_or now i d).call; answer = r }

    slot_kept : drop i now ≡ drop i before → get_or now i d ≡ get_or before i d
    slot_kept rest =
        let none : i + 0 ≡ i = omega arith in
        sym (get_or-drop i now 0 d ∙ ap (λ k. get_or now k d) none) ∙ ap (λ l. get_or l 0 d) rest ∙ get_or-drop i before 0 d ∙ ap (λ k. get_or before k d) none

    pub sofar_more : Sofar first before now i store → Leaves words beyond holding R store (get_or now i d).call r store' → Carries (state_of words holding store) (get_or now i d).call r (state_of words holding store') → Sofar first before (set now i record { call = (get_or now i d).call; answer = Some r }) (i + 1) store'
    unfolding made
    sofar_more far leaves carries =
        let h = far.history in
        let lt' : i < length before = omega arith in
        let under : i < i + 1 = omega arith in
        let grown = take_more_set now i (slot_of made) lt in
        record {
          history = made ∷ h;
          done = grown ∙ ap (λ l. l ++ slot_of made ∷ []) far.done ∙ sym (map_push slot_of (reverse h) made) ∙ ap (map slot_of) (sym (reverse-append (made ∷ []) h));
          rest = drop-set-lt (i + 1) now i (slot_of made) under ∙ sym (drop-drop 1 i now) ∙ ap (drop 1) far.rest ∙ drop-drop 1 i before;
          calls =
              ap (map call_in) grown
              ∙ map_push call_in (take i now) (slot_of made)
              ∙ (λ k. far.calls k ++ ap call_in (slot_kept far.rest) k ∷ [])
              ∙ sym (map_push call_in (take i before) (get_or before i d))
              ∙ ap (map call_in) (sym (take_more before i d lt'));
          reached = carries (words first.memory) h far.reached;
          untouched = leaves.untouched ∙ far.untouched;
          travelled = onward h made store.book store'.book far.travelled record { holds = far.reached.held; moved = leaves.moved };
        }

  pub sofar_all : (memory : M) (book : B) (first : Store M B) (before now : List Turn) (i : ℕ) (store : Store M B) → first.memory ≡ memory → Releases R book 16 first.book → length now ≤ i → length now ≡ length before → Sofar first before now i store → Replayed words beyond holding R memory book before now store
  sofar_all memory book first before now i store em released le same far =
      let le' : length before ≤ i = omega arith in
      record {
        history = far.history;
        answered = sym (take_all i now le) ∙ far.done;
        calls = ap (map call_in) (sym (take_all i now le)) ∙ far.calls ∙ ap (map call_in) (take_all i before le');
        promised = promised _ _ _ (subst (λ m. Reached (words m) far.history (state_of words holding store)) em far.reached);
        untouched = far.untouched ∙ ap beyond em;
        fresh = first.book;
        released = released;
        travelled = far.travelled;
      }
