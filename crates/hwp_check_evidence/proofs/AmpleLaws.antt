-- The flags of frames are those that the commands name.
use Rattle.std.proofs.Common.{◌≡◌, inl, inr, ℕ, ◌+◌, ◌<◌, ◌==◌, ◌||◌, cond, Bool, true, false, List, [], ◌∷◌, Option, Some, None, fold, get_or, set, replicate, length, refl, sym, ap, ◌∙◌, subst, arith}
use Rattle.std.specs.List.{cons_option, filter_map, flat_map, list_any}
use Rattle.std.proofs.lemmas.Bool.{cases_eq, eq-eqb, eqb-true, false_from_ne_true}
use Rattle.std.proofs.lemmas.List.{get_or-set_same, get_or-set_other, get_or-replicate, length-replicate, length-set}
use Rattle.std.proofs.lemmas.List.Folds.{list_any-append}
use Rattle.hwp_law.specs.hwp_script_words.declared.Command.{Command}
use Rattle.hwp_law.specs.hwp_script_words.declared.Script.{Script}
use Rattle.hwp_law.specs.Commands.{has_watch}
use Rattle.hwp_law.specs.Answers.{frame_named, named_frames, usable_frames, usable_from}
use Rattle.hwp_check_evidence.specs.Ample.{flags_of, noted, noted_in, noted_list, usable_by}

or-false : (b : Bool) → (b || false) ≡ b
or-false true = refl
or-false false = refl

or-assoc : (a b c : Bool) → ((a || b) || c) ≡ (a || (b || c))
or-assoc true b c = refl
or-assoc false b c = refl

noted-many : (flags : List Bool) (o : Option ℕ) → length (noted flags o) ≡ length flags
noted-many flags None = refl
noted-many flags (Some n) = length-set flags n true

list-many : (watches : Bool) (list : List Command) (flags : List Bool) → length (noted_list watches flags list) ≡ length flags
list-many watches [] flags = refl
list-many watches (c ∷ rest) flags = list-many watches rest (noted_in watches flags c) ∙ noted-many flags (frame_named watches c)

module _ (watches : Bool) (f : ℕ) where
  set-at : (flags : List Bool) (n : ℕ) → f < length flags → get_or (set flags n true) f false ≡ (get_or flags f false || (n == f))
  set-at flags n inside = elim (cases_eq f n) [
    | inl here ↦
        let own : (n == f) ≡ true = eq-eqb n f (sym here) in
        let got : get_or (set flags n true) f false ≡ true = subst (λ (m : ℕ). get_or (set flags m true) f false ≡ true) here (get_or-set_same flags f true false inside) in
        got ∙ sym (ap (λ (b : Bool). get_or flags f false || b) own ∙ or-true (get_or flags f false))
    | inr other ↦
        let far : (n == f) ≡ false = false_from_ne_true (n == f) (λ is. other (sym (eqb-true n f is))) in
        get_or-set_other flags n f true false other ∙ sym (ap (λ (b : Bool). get_or flags f false || b) far ∙ or-false (get_or flags f false))
  ]
    where
      or-true : (b : Bool) → (b || true) ≡ true
      or-true true = refl
      or-true false = refl

  list-at : (list : List Command) (flags : List Bool) → f < length flags → get_or (noted_list watches flags list) f false ≡ (get_or flags f false || list_any (λ n. n == f) (filter_map (frame_named watches) list))
  list-at [] flags inside = sym (or-false (get_or flags f false))
  list-at (c ∷ rest) flags inside = by (frame_named watches c) (λ other in'. list-at rest other in')
    where
      by : (o : Option ℕ) → ((other : List Bool) → f < length other → get_or (noted_list watches other rest) f false ≡ (get_or other f false || list_any (λ n. n == f) (filter_map (frame_named watches) rest)))
          → get_or (noted_list watches (noted flags o) rest) f false ≡ (get_or flags f false || list_any (λ n. n == f) (cons_option o (filter_map (frame_named watches) rest)))
      by None more = more flags inside
      by (Some n) more =
          more (set flags n true) (subst (λ (m : ℕ). f < m) (sym (length-set flags n true)) inside)
          ∙ ap (λ (b : Bool). b || list_any (λ m. m == f) (filter_map (frame_named watches) rest)) (set-at flags n inside)
          ∙ or-assoc (get_or flags f false) (n == f) (list_any (λ m. m == f) (filter_map (frame_named watches) rest))

  lists-at : (lists : List (List Command)) (flags : List Bool) → f < length flags
      → get_or (fold (noted_list watches) flags lists) f false ≡ (get_or flags f false || list_any (λ n. n == f) (flat_map (filter_map (frame_named watches)) lists))
  lists-at [] flags inside = sym (or-false (get_or flags f false))
  lists-at (l ∷ rest) flags inside =
      lists-at rest (noted_list watches flags l) (subst (λ (m : ℕ). f < m) (sym (list-many watches l flags)) inside)
      ∙ ap (λ (b : Bool). b || list_any (λ n. n == f) (flat_map (filter_map (frame_named watches)) rest)) (list-at l flags inside)
      ∙ or-assoc (get_or flags f false) (list_any (λ n. n == f) (filter_map (frame_named watches) l)) (list_any (λ n. n == f) (flat_map (filter_map (frame_named watches)) rest))
      ∙ ap (λ (b : Bool). get_or flags f false || b) (sym (list_any-append (λ n. n == f) (filter_map (frame_named watches) l) (flat_map (filter_map (frame_named watches)) rest)))

flag-is : (script : Script) (f : ℕ) → f < length script.layout.kernel → get_or (flags_of script) f false ≡ list_any (λ n. n == f) (named_frames script)
flag-is script f inside =
    lists-at (has_watch script) f script.lists (replicate (length script.layout.kernel) false) (subst (λ (m : ℕ). f < m) (sym (length-replicate {A = Bool} (length script.layout.kernel) false)) inside)
    ∙ ap (λ (b : Bool). b || list_any (λ n. n == f) (named_frames script)) (get_or-replicate {A = Bool} (length script.layout.kernel) f false false inside)

usable-from : (flags : List Bool) (named : List ℕ) (n : ℕ) (kernels : List Bool) → ((f : ℕ) → f < n + length kernels → get_or flags f false ≡ list_any (λ m. m == f) named)
    → usable_by flags n kernels ≡ usable_from named n kernels
usable-from flags named n [] same = refl
usable-from flags named n (k ∷ rest) same =
    let here : get_or flags n false ≡ list_any (λ m. m == n) named = same n (omega arith) in
    let more : usable_by flags (n + 1) rest ≡ usable_from named (n + 1) rest = usable-from flags named (n + 1) rest (λ f low. same f (omega (arith, low))) in
    ap (λ (b : Bool). cond (k || b) 0 1 + usable_by flags (n + 1) rest) here ∙ ap (λ (m : ℕ). cond (k || list_any (λ x. x == n) named) 0 1 + m) more

pub usable_is : (script : Script) → usable_by (flags_of script) 0 script.layout.kernel ≡ usable_frames script
usable_is script = usable-from (flags_of script) (named_frames script) 0 script.layout.kernel (λ f low. flag-is script f (omega (arith, low)))
