-- A replay that has come as far as one group of numbers.
use Rattle.std.proofs.Common.{◌≡◌, ℕ, ◌+◌, ◌*◌, ◌/◌, ◌<◌, ◌≤◌, min, Ok, Err, Result, Option, List, [], ◌∷◌, ◌++◌, map, reverse, length, length-append, get_or, take, drop, refl, sym, ap, ◌∙◌, subst, append_assoc, append-nil, drop_of_length-le, arith}
use Rattle.std.proofs.lemmas.List.{at_drop_more, flat_map_more, drop_at, drop-drop, map_push, reverse-append, take_at}
use Rattle.std.specs.Simd.{first_chunks}
use Rattle.fault.specs.declared.Fault.{Fault}
use Rattle.book.specs.Holdings.{Holdings}
use Rattle.book.specs.Moves.{Move}
use Rattle.store.specs.States.{state_of}
use Rattle.store.specs.Histories.{History, Told}
use Rattle.store.specs.Moved.{Releases, Leaves}
use Rattle.store.specs.Reached.{Reached, Carries}
use Rattle.store.specs.Promises.{Travelled, start, onward, slot_of, Replayed}
use Rattle.store.specs.declared.Answer.{Answer}
use Rattle.store.specs.declared.Answer.TheVariants.{Done, Word, Ended}
use Rattle.store.specs.declared.Call.{Call}
use Rattle.store.specs.declared.Store.{Store}
use Rattle.store.specs.declared.Turn.{Turn}
use Rattle.store.proofs.Promised.{promised}
use Rattle.lent.specs.Numbers.{answers_of, call_of, before_none, groups, calls_of, numbers_of, numbers_in}
use Rattle.lent.specs.Promises.{unanswered}

pub groups_are : (calls answers : List ℕ) (chunks : List (List ℕ)) (room : ℕ) → chunks ≡ first_chunks 4 (length calls / 4) calls → room ≡ min (length calls / 4) (length answers / 4) → take room chunks ≡ groups calls answers
groups_are calls answers chunks room e r = ap (take room) e ∙ ap (λ n. take n (first_chunks 4 (length calls / 4) calls)) r

-- the calls of turns, whatever their answers
abbrev asked : List Turn → List Call
asked turns = map (λ (turn : Turn). turn.call) turns

abbrev asked_in : List (List ℕ) → List Call
asked_in gs = asked (map unanswered (calls_of gs))

abbrev pub turns_of : History → List Turn
turns_of h = map slot_of (reverse h)

turns_push : (turn : Told) (h : History) → turns_of (turn ∷ h) ≡ turns_of h ++ slot_of turn ∷ []
turns_push turn h = ap (map slot_of) (reverse-append (turn ∷ []) h) ∙ map_push slot_of (reverse h) turn

answers_push : (call : Call) (r : Result Answer Fault) (h : History) → answers_of (turns_of (record { call = call; answer = r } ∷ h)) ≡ answers_of (turns_of h) ++ numbers_of r
answers_push call r h = ap answers_of (turns_push _ h) ∙ sym (flat_map_more (λ (turn : Turn). numbers_in turn.answer) [] (turns_of h) _)

length-numbers_of : (r : Result Answer Fault) → length (numbers_of r) ≡ 4
length-numbers_of (Ok Done) = refl
length-numbers_of (Ok (Word w)) = refl
length-numbers_of (Ok (Ended n f)) = refl
length-numbers_of (Err f) = refl

pub four_of : (r : Result Answer Fault) → get_or (numbers_of r) 0 0 ∷ get_or (numbers_of r) 1 0 ∷ get_or (numbers_of r) 2 0 ∷ get_or (numbers_of r) 3 0 ∷ [] ≡ numbers_of r
four_of (Ok Done) = refl
four_of (Ok (Word w)) = refl
four_of (Ok (Ended n f)) = refl
four_of (Err f) = refl

-- the calls of the groups from the next one on
module _ (gs : List (List ℕ)) (made i : ℕ) (counted : made ≡ i) where
  pub calls_from : (o : Option Call) → i < length gs → o ≡ call_of (get_or gs i []) → calls_of (drop made gs) ≡ before_none o (calls_of (drop (made + 1) gs))
  unfolding calls_of
  calls_from o lt is =
      at_drop_more calls_of gs made [] (omega (arith, counted))
      ∙ ap (λ o. before_none o (calls_of (drop (made + 1) gs))) (ap (λ k. call_of (get_or gs k [])) counted ∙ sym is)

  pub none_from : length gs ≤ i → calls_of (drop made gs) ≡ []
  unfolding calls_of
  none_from le = ap calls_of (drop_of_length-le gs (omega (arith, counted, le)))

module _ {M B : Type 0} (words : M → List ℕ) (beyond : M → List (List ℕ)) (holding : B → Holdings) (R : B → Move → B → Type 0) (first : Store M B) (gs : List (List ℕ)) (before : List ℕ) where
  -- the calls of the groups before `made` are made, from the store `first` on, and their answers are written over `before`
  pub record Sofar (made : ℕ) (answers : List ℕ) (store : Store M B) : Type 0 where
    pub history : History
    pub many : made ≡ length (turns_of history)
    pub calls : asked (turns_of history) ++ asked_in (drop made gs) ≡ asked_in gs
    pub places : length (answers_of (turns_of history)) ≡ 4 * made
    pub written : answers ≡ answers_of (turns_of history) ++ drop (4 * made) before
    pub reached : Reached (words first.memory) history (state_of words holding store)
    pub untouched : beyond store.memory ≡ beyond first.memory
    pub travelled : Travelled holding R first.book history store.book

  pub sofar_none : (memory : M) → first.memory ≡ memory → Reached (words memory) [] (state_of words holding first) → Sofar 0 before first
  sofar_none memory em reached =
      record {
        history = [];
        many = refl;
        calls = refl;
        places = refl;
        written = refl;
        reached = subst (λ m. Reached (words m) [] (state_of words holding first)) (sym em) reached;
        untouched = refl;
        travelled = start;
      }

  module _ (made : ℕ) (answers : List ℕ) (store : Store M B) (far : Sofar made answers store) where
    pub sofar_more : (c : Call) (r : Result Answer Fault) (answers' : List ℕ) (store' : Store M B) → calls_of (drop made gs) ≡ c ∷ calls_of (drop (made + 1) gs) → answers' ≡ take (4 * made) answers ++ (numbers_of r ++ drop 4 (drop (4 * made) answers)) → Leaves words beyond holding R store c r store' → Carries (state_of words holding store) c r (state_of words holding store') → Sofar (made + 1) answers' store'
    sofar_more c r answers' store' is after leaves carries =
        let h = far.history in
        let turn : Told = record { call = c; answer = r } in
        let grown = answers_push c r h in
        let front : take (4 * made) answers ≡ answers_of (turns_of h) = ap (take (4 * made)) far.written ∙ take_at _ _ (4 * made) far.places in
        let more : 4 * made + 4 ≡ 4 * (made + 1) = omega arith in
        let back : drop 4 (drop (4 * made) answers) ≡ drop (4 * (made + 1)) before =
        ap (drop 4) (ap (drop (4 * made)) far.written ∙ drop_at _ _ (4 * made) far.places) ∙ drop-drop 4 (4 * made) before ∙ ap (λ n. drop n before) more in
        record {
          history = turn ∷ h;
          many = ap (λ n. n + 1) far.many ∙ sym (ap length (turns_push turn h) ∙ length-append (turns_of h) (slot_of turn ∷ []));
          calls =
              ap (λ ts. asked ts ++ asked_in (drop (made + 1) gs)) (turns_push turn h)
              ∙ ap (λ cs. cs ++ asked_in (drop (made + 1) gs)) (map_push (λ (t : Turn). t.call) (turns_of h) (slot_of turn))
              ∙ append_assoc (asked (turns_of h)) (c ∷ []) (asked_in (drop (made + 1) gs))
              ∙ ap (λ cs. asked (turns_of h) ++ asked (map unanswered cs)) (sym is)
              ∙ far.calls;
          places = omega (arith, ap length grown, length-append (answers_of (turns_of h)) (numbers_of r), length-numbers_of r, far.places);
          written =
              after
              ∙ (λ k. front k ++ (numbers_of r ++ back k))
              ∙ sym (append_assoc (answers_of (turns_of h)) (numbers_of r) (drop (4 * (made + 1)) before))
              ∙ ap (λ l. l ++ drop (4 * (made + 1)) before) (sym grown);
          reached = carries (words first.memory) h far.reached;
          untouched = leaves.untouched ∙ far.untouched;
          travelled = onward h turn store.book store'.book far.travelled record { holds = far.reached.held; moved = leaves.moved };
        }

    -- no call is left
    pub sofar_all : (memory : M) (book : B) → first.memory ≡ memory → Releases R book 16 first.book → calls_of (drop made gs) ≡ [] → (all : List (List ℕ)) → gs ≡ all → Replayed words beyond holding R memory book (map unanswered (calls_of all)) (turns_of far.history) store
    sofar_all memory book em released none all same =
        record {
          history = far.history;
          answered = refl;
          calls = sym (append-nil _) ∙ ap (λ cs. asked (turns_of far.history) ++ asked (map unanswered cs)) (sym none) ∙ far.calls ∙ ap asked_in same;
          promised = promised _ _ _ (subst (λ m. Reached (words m) far.history (state_of words holding store)) em far.reached);
          untouched = far.untouched ∙ ap beyond em;
          fresh = first.book;
          released = released;
          travelled = far.travelled;
        }
