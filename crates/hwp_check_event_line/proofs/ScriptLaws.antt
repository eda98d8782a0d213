-- Each command of a declared script is one of its processor.
use Rattle.std.proofs.Common.{◌≡◌, ℕ, zero, suc, ◌+◌, List, [], ◌∷◌, Some, slice_get, subst, arith}
use Rattle.std.specs.List.{All}
use Rattle.std.proofs.lemmas.List.Elements.{All-get_or}
use Rattle.std.proofs.lemmas.Option.{get_or_from_slice_get, none-some, same_Some, slice_get_within}
use Rattle.hwp_banks.specs.hwp_geom.declared.Layout.{Layout}
use Rattle.hwp_law.specs.hwp_script_words.Valid.{AreLists, IsCommandOf}
use Rattle.hwp_check_event_line.specs.Scripts.{IsDeclared}
use Rattle.hwp_law.specs.hwp_script_words.declared.Command.{Command}
use Rattle.hwp_law.specs.hwp_script_words.declared.Script.{Script}

all-at : {X : Type 0} (P : X → Type 0) (xs : List X) (i : ℕ) (x : X) → All P xs → slice_get xs i ≡ Some x → P x
all-at P xs i x all there = subst P (get_or_from_slice_get xs i x x there) (All-get_or P xs i x (slice_get_within xs i x there) all)

list-at : (layout : Layout) (cpu : ℕ) (lists : List (List Command)) (i : ℕ) (list : List Command) → AreLists layout cpu lists → slice_get lists i ≡ Some list → All (IsCommandOf layout (cpu + i)) list
list-at layout cpu [] i list are there = absurd (none-some list there)
list-at layout cpu (l ∷ ls) zero list are there = subst (All (IsCommandOf layout (cpu + 0))) (same_Some _ _ there) (subst (λ (c : ℕ). All (IsCommandOf layout c) l) (let e : cpu ≡ cpu + 0 = omega arith in e) are.0)
list-at layout cpu (l ∷ ls) (suc i) list are there = subst (λ (c : ℕ). All (IsCommandOf layout c) list) (let e : cpu + 1 + i ≡ cpu + suc i = omega arith in e) (list-at layout (cpu + 1) ls i list are.1 there)

pub command-of : (script : Script) (cpu n : ℕ) (list : List Command) (command : Command) → IsDeclared script → slice_get script.lists cpu ≡ Some list → slice_get list n ≡ Some command → IsCommandOf script.layout (0 + cpu) command
command-of script cpu n list command valid of there = all-at (IsCommandOf script.layout (0 + cpu)) list n command (list-at script.layout 0 script.lists cpu list valid.lists of) there
