-- Entries can be compared: each as lists of numbers, which give it back.
use Rattle.std.proofs.Common.{◌≡◌, ℕ, ◌==◌, ◌&&◌, Bool, true, cond, List, [], ◌∷◌, Option, Some, None, map, refl, sym, ap, ◌∙◌}
use Rattle.std.specs.Bool.{Decides}
use Rattle.std.specs.Cmp.Lexicographic.{pointwise}
use Rattle.std.specs.Str.{bytes_eq}
use Rattle.std.proofs.lemmas.Bool.{and_parts}
use Rattle.std.proofs.lemmas.Slice.Eq.{bytes_eq-Decides, slice_eq-Decides}
use Rattle.hwp_law.specs.hwp_geom.declared.Thread.{Thread}
use Rattle.hwp_law.specs.hwp_kill.declared.Code.{Code}
use Rattle.hwp_law.specs.hwp_kill.declared.Code.TheVariants.{Ar, Ao}
use Rattle.hwp_law.specs.hwp_kill.declared.Policy.{Policy}
use Rattle.hwp_law.specs.hwp_kill.declared.Policy.TheVariants.{Late, Early, Default}
use Rattle.hwp_law.specs.hwp_kill.declared.Seen.{Seen}
use Rattle.hwp_law.specs.hwp_kill.declared.Signal.{Signal}
use Rattle.hwp_law.specs.hwp_kill.Prctl.{policy_number}
use Rattle.hwp_law.specs.hwp_page.declared.Entry.{Entry}
use Rattle.hwp_law.specs.hwp_page.declared.Met.{Met}
use Rattle.hwp_law.specs.hwp_page.declared.Met.TheVariants.{Word, Sigbus}
use Rattle.hwp_law.specs.hwp_page.declared.Situation.{Situation}
use Rattle.hwp_law.specs.hwp_page.declared.What.{What}
use Rattle.hwp_law.specs.hwp_page.declared.What.TheVariants as entries
use Rattle.hwp_law.specs.Pairings.{situation_number}
use Rattle.hwp_law.proofs.Situations.{situation-back, situation_from}

-- ---- parts of entries, as numbers and back

abbrev code_number : Code → ℕ
code_number Ar = 0
code_number Ao = 1

abbrev seen_numbers : Seen → List ℕ
seen_numbers s = s.thread.0 ∷ policy_number s.policy ∷ s.n ∷ []

abbrev signal_numbers : Signal → List ℕ
signal_numbers s = s.process.0 ∷ s.thread.0 ∷ code_number s.code ∷ s.slot.0 ∷ []

abbrev policy_from : ℕ → Policy
policy_from n = cond (n == 0) Late (cond (n == 1) Early Default)

policy-back : (p : Policy) → policy_from (policy_number p) ≡ p
policy-back Late = refl
policy-back Early = refl
policy-back Default = refl

abbrev code_from : ℕ → Code
code_from n = cond (n == 0) Ar Ao

code-back : (c : Code) → code_from (code_number c) ≡ c
code-back Ar = refl
code-back Ao = refl

abbrev seen_from : List ℕ → Seen
seen_from (thread ∷ policy ∷ n ∷ []) = record { thread = record { 0 = thread }; policy = policy_from policy; n = n }
seen_from _ = record { thread = record { 0 = 0 }; policy = Late; n = 0 }

seen-back : (s : Seen) → seen_from (seen_numbers s) ≡ s
seen-back s = ap (λ (p : Policy). record s { policy = p }) (policy-back s.policy)

abbrev signal_from : List ℕ → Signal
signal_from (process ∷ thread ∷ code ∷ slot ∷ []) = record { process = record { 0 = process }; thread = record { 0 = thread }; code = code_from code; slot = record { 0 = slot } }
signal_from _ = record { process = record { 0 = 0 }; thread = record { 0 = 0 }; code = Ar; slot = record { 0 = 0 } }

signal-back : (s : Signal) → signal_from (signal_numbers s) ≡ s
signal-back s = ap (λ (c : Code). record s { code = c }) (code-back s.code)

back-all : {A B : Type 0} (to : A → B) (from : B → A) → ((a : A) → from (to a) ≡ a) → (list : List A) → map from (map to list) ≡ list
back-all to from back [] = refl
back-all to from back (x ∷ xs) = ap (λ a. a ∷ map from (map to xs)) (back x) ∙ ap (λ l. x ∷ l) (back-all to from back xs)

-- ---- entries

abbrev met_numbers : ℕ → ℕ → ℕ → Met → List ℕ
met_numbers tag slot line (Word mask word) = tag ∷ slot ∷ line ∷ 0 ∷ mask.0 ∷ word ∷ []
met_numbers tag slot line (Sigbus thread) = tag ∷ slot ∷ line ∷ 1 ∷ thread.0 ∷ 0 ∷ []

abbrev fail_numbers : Situation → Option Thread → List ℕ
fail_numbers situation None = 9 ∷ situation_number situation ∷ 0 ∷ 0 ∷ 0 ∷ 0 ∷ []
fail_numbers situation (Some thread) = 9 ∷ situation_number situation ∷ 0 ∷ 1 ∷ thread.0 ∷ 0 ∷ []

abbrev what_numbers : What → List ℕ
what_numbers (entries.Load slot line met) = met_numbers 0 slot.0 line met
what_numbers (entries.Store slot line met) = met_numbers 1 slot.0 line met
what_numbers entries.FaultIn = 2 ∷ 0 ∷ 0 ∷ 0 ∷ 0 ∷ 0 ∷ []
what_numbers (entries.Map slot) = 3 ∷ slot.0 ∷ 0 ∷ 0 ∷ 0 ∷ 0 ∷ []
what_numbers (entries.Free slot) = 4 ∷ slot.0 ∷ 0 ∷ 0 ∷ 0 ∷ 0 ∷ []
what_numbers entries.Drop = 5 ∷ 0 ∷ 0 ∷ 0 ∷ 0 ∷ 0 ∷ []
what_numbers entries.Sync = 6 ∷ 0 ∷ 0 ∷ 0 ∷ 0 ∷ 0 ∷ []
what_numbers entries.Out = 7 ∷ 0 ∷ 0 ∷ 0 ∷ 0 ∷ 0 ∷ []
what_numbers (entries.Mce slot line mask) = 8 ∷ slot.0 ∷ line ∷ 0 ∷ mask.0 ∷ 0 ∷ []
what_numbers (entries.Fail situation required seen signals) = fail_numbers situation required
what_numbers entries.Soft = 10 ∷ 0 ∷ 0 ∷ 0 ∷ 0 ∷ 0 ∷ []

abbrev seen_of : What → List Seen
seen_of (entries.Fail situation required seen signals) = seen
seen_of _ = []

abbrev signals_of : What → List Signal
signals_of (entries.Fail situation required seen signals) = signals
signals_of _ = []

abbrev met_from : ℕ → ℕ → ℕ → Met
met_from kind a b = cond (kind == 0) (Word (record { 0 = a }) b) (Sigbus (record { 0 = a }))

abbrev required_from : ℕ → ℕ → Option Thread
required_from kind thread = cond (kind == 0) None (Some (record { 0 = thread }))

abbrev what_from : List ℕ → List Seen → List Signal → What
what_from (tag ∷ a ∷ b ∷ c ∷ d ∷ e ∷ []) seen signals =
    cond (tag == 0) (entries.Load (record { 0 = a }) b (met_from c d e))
    (cond (tag == 1) (entries.Store (record { 0 = a }) b (met_from c d e))
    (cond (tag == 2) entries.FaultIn
    (cond (tag == 3) (entries.Map (record { 0 = a }))
    (cond (tag == 4) (entries.Free (record { 0 = a }))
    (cond (tag == 5) entries.Drop
    (cond (tag == 6) entries.Sync
    (cond (tag == 7) entries.Out
    (cond (tag == 8) (entries.Mce (record { 0 = a }) b (record { 0 = d }))
    (cond (tag == 9) (entries.Fail (situation_from a) (required_from c d) seen signals) entries.Soft)))))))))
what_from _ seen signals = entries.Soft

what-back : (w : What) → what_from (what_numbers w) (seen_of w) (signals_of w) ≡ w
what-back (entries.Load slot line (Word mask word)) = refl
what-back (entries.Load slot line (Sigbus thread)) = refl
what-back (entries.Store slot line (Word mask word)) = refl
what-back (entries.Store slot line (Sigbus thread)) = refl
what-back entries.FaultIn = refl
what-back (entries.Map slot) = refl
what-back (entries.Free slot) = refl
what-back entries.Drop = refl
what-back entries.Sync = refl
what-back entries.Out = refl
what-back (entries.Mce slot line mask) = refl
what-back (entries.Fail situation None seen signals) = ap (λ (s : Situation). entries.Fail s None seen signals) (situation-back situation)
what-back (entries.Fail situation (Some thread) seen signals) = ap (λ (s : Situation). entries.Fail s (Some thread) seen signals) (situation-back situation)
what-back entries.Soft = refl

-- an entry as lists of numbers
abbrev pub numbers_of : Entry → List (List ℕ)
numbers_of e = (e.who.cpu.0 ∷ e.who.seq ∷ what_numbers e.what) ∷ map seen_numbers (seen_of e.what)

same-lists : (xs ys : List (List ℕ)) → Decides (pointwise bytes_eq xs ys) (xs ≡ ys)
same-lists xs ys = slice_eq-Decides bytes_eq-Decides xs ys (pointwise bytes_eq xs ys) refl

-- the two are the same entry
abbrev pub same_entry : Entry → Entry → Bool
same_entry a b = pointwise bytes_eq (numbers_of a) (numbers_of b) && pointwise bytes_eq (map signal_numbers (signals_of a.what)) (map signal_numbers (signals_of b.what))

abbrev entry_from : List (List ℕ) → List (List ℕ) → Entry
entry_from ((cpu ∷ seq ∷ what) ∷ seen) signals = record { who = record { cpu = record { 0 = cpu }; seq = seq }; what = what_from what (map seen_from seen) (map signal_from signals) }
entry_from _ signals = record { who = record { cpu = record { 0 = 0 }; seq = 0 }; what = entries.Soft }

entry-back : (e : Entry) → entry_from (numbers_of e) (map signal_numbers (signals_of e.what)) ≡ e
entry-back e =
    ap (λ (seen : List Seen). record e { what = what_from (what_numbers e.what) seen (map signal_from (map signal_numbers (signals_of e.what))) }) (back-all seen_numbers seen_from seen-back (seen_of e.what))
    ∙ ap (λ (signals : List Signal). record e { what = what_from (what_numbers e.what) (seen_of e.what) signals }) (back-all signal_numbers signal_from signal-back (signals_of e.what))
    ∙ ap (λ (w : What). record e { what = w }) (what-back e.what)

pub same_entry-is : (a b : Entry) → same_entry a b ≡ true → a ≡ b
same_entry-is a b same =
    let both = and_parts _ _ same in
    let first : numbers_of a ≡ numbers_of b = (same-lists (numbers_of a) (numbers_of b)).0 both.0 in
    let second : map signal_numbers (signals_of a.what) ≡ map signal_numbers (signals_of b.what) = (same-lists (map signal_numbers (signals_of a.what)) (map signal_numbers (signals_of b.what))).0 both.1 in
    sym (entry-back a) ∙ ap (λ (l : List (List ℕ)). entry_from l (map signal_numbers (signals_of a.what))) first ∙ ap (entry_from (numbers_of b)) second ∙ entry-back b

pub same_entry-self : (a : Entry) → same_entry a a ≡ true
same_entry-self a =
    ap (λ (x : Bool). x && pointwise bytes_eq (map signal_numbers (signals_of a.what)) (map signal_numbers (signals_of a.what))) ((same-lists (numbers_of a) (numbers_of a)).1 refl)
    ∙ (same-lists (map signal_numbers (signals_of a.what)) (map signal_numbers (signals_of a.what))).1 refl
