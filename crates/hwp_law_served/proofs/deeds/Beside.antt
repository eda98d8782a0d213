-- The entries by which pages left frames that were taken out of use beside a command are those that its row tells.
use Rattle.std.proofs.Common.{◌≡◌, ◌⊎◌, inl, inr, ℕ, zero, suc, true, List, [], ◌∷◌, Option, Some, None, filter, map, slice_get, refl, sym, ap, ◌∙◌, true≢false}
use Rattle.std.specs.List.{cons_option}
use Rattle.std.proofs.lemmas.Option.{none-some, same_Some}
use Rattle.hwp_law.specs.hwp_geom.declared.Who.{Who}
use Rattle.hwp_law.specs.hwp_page.declared.At.{At}
use Rattle.hwp_law.specs.hwp_page.declared.What.{What}
use Rattle.hwp_law.specs.hwp_page.declared.What.TheVariants as entries
use Rattle.hwp_plain.specs.hwp_core_rule.declared.Made.{Made}
use Rattle.hwp_plain.specs.hwp_core_rule.declared.View.{View}
use Rattle.hwp_plain.specs.hwp_core_rule.Lists.{EachMember}
use Rattle.hwp_plain.proofs.of_hwp_core_rule.Lists.{at_map}
use Rattle.hwp_plain.specs.hwp_core_rule.Known.{deeds}
use Rattle.hwp_law.specs.hwp_script_words.declared.Command.{Command}
use Rattle.hwp_law.specs.Pairings.{is_soft}
use Rattle.hwp_cpu_row.specs.declared.Offlining.{Offlining}
use Rattle.hwp_cpu_row.specs.declared.Row.{Row}
use Rattle.hwp_law_served.specs.Causes.{IsBeside}
use Rattle.hwp_law_served.specs.Offlinings.{AreBeside, left_at, left_beside, left_by, left_itself, place_of}
use Rattle.hwp_law_served.proofs.Picked.{picked-has, picked-is}
use Rattle.hwp_law_served.proofs.RunEnds.{filter-has}
use Rattle.hwp_law_served.proofs.Seen.{MadeWhat, filter-is, listed-as-own}

-- the place is of an entry that the row tells: by its answer, or by what came of a frame
pub record IsToldOf (row : Row) (at : At) : Type 0 where
  pub k : ℕ
  pub offlining : Offlining
  pub there : slice_get row.offlined k ≡ Some offlining
  pub left : left_at offlining.result ≡ Some at

abbrev pub IsLeftBy : Command → Row → At → Type 0
IsLeftBy command row at = (left_itself command row.answer ≡ Some at) ⊎ IsToldOf row at

-- a member of a list with an option before it is the option, or a member of the list
optional : {A : Type 0} (o : Option A) (l : List A) (k : ℕ) (x : A) → slice_get (cons_option o l) k ≡ Some x → (o ≡ Some x) ⊎ ((j : ℕ) × (slice_get l j ≡ Some x))
optional None l k x there = inr (k, there)
optional (Some y) l zero x there = inl there
optional (Some y) l (suc k) x there = inr (k, there)

behind-option : {A : Type 0} (o : Option A) (l : List A) (k : ℕ) (x : A) → slice_get l k ≡ Some x → (j : ℕ) × (slice_get (cons_option o l) j ≡ Some x)
behind-option None l k x there = (k, there)
behind-option (Some y) l k x there = (suc k, there)

-- a member of a mapped list is of a member
of-mapped : {A B : Type 0} (f : A → B) (l : List A) (k : ℕ) (y : B) → slice_get (map f l) k ≡ Some y → (x : A) × (slice_get l k ≡ Some x) × (f x ≡ y)
of-mapped f [] k y there = absurd (none-some y there)
of-mapped f (x ∷ xs) zero y there = (x, refl, same_Some (f x) y there)
of-mapped f (x ∷ xs) (suc k) y there = of-mapped f xs k y there

pub soft-is : (what : What) → is_soft what ≡ true → what ≡ entries.Soft
soft-is entries.Soft is = refl
soft-is what is = absurd (true≢false (sym is))

module _ (view : View) (who : Who) (command : Command) (row : Row) (are : AreBeside view who command row) where
  -- an entry at such a place is there
  made-left : (k : ℕ) (at : At) → slice_get (left_by who view) k ≡ Some at → MadeWhat view who at entries.Soft
  made-left k at there =
      let of = of-mapped place_of (filter (λ (m : Made). is_soft m.entry.what) (deeds who view)) k at there in
      let soft = filter-is (λ (m : Made). is_soft m.entry.what) (deeds who view) k of.0 of.1 in
      let own = listed-as-own view who soft.0 of.0 soft.1 in
      record {
        j = own.0;
        made = of.0;
        there = own.1;
        entry_is = ap (λ (w : Who). record { who = w; what = of.0.entry.what }) own.2 ∙ ap (λ (x : What). record { who = who; what = x }) (soft-is of.0.entry.what soft.2);
        place_is = of.2;
      }

  -- the entry of each frame whose page left it
  pub left-made : (k : ℕ) (o : Offlining) (at : At) → slice_get row.offlined k ≡ Some o → left_at o.result ≡ Some at → MadeWhat view who at entries.Soft
  left-made k o at there left =
      let picked = picked-has (λ (x : Offlining). left_at x.result) row.offlined k o at there left in
      let placed = behind-option (left_itself command row.answer) (left_beside row.offlined) picked.0 at picked.1 in
      made-left placed.0 at (ap (λ (l : List At). slice_get l placed.0) are ∙ placed.1)

  -- and each such entry is told
  pub left-told : EachMember (λ (m : Made). IsBeside m → IsLeftBy command row (place_of m)) (deeds who view)
  left-told j m there beside =
      let soft = filter-has (λ (x : Made). is_soft x.entry.what) (deeds who view) j m there beside in
      let placed : slice_get (left_by who view) soft.0 ≡ Some (place_of m) = at_map place_of (filter (λ (x : Made). is_soft x.entry.what) (deeds who view)) soft.0 m soft.1 in
      which (optional (left_itself command row.answer) (left_beside row.offlined) soft.0 (place_of m) (sym (ap (λ (l : List At). slice_get l soft.0) are) ∙ placed))
    where
      which : (left_itself command row.answer ≡ Some (place_of m)) ⊎ ((k : ℕ) × (slice_get (left_beside row.offlined) k ≡ Some (place_of m))) → IsLeftBy command row (place_of m)
      which (inl itself) = inl itself
      which (inr (k, one)) =
          let picked = picked-is (λ (x : Offlining). left_at x.result) row.offlined k (place_of m) one in
          inr (record { k = picked.0; offlining = picked.1; there = picked.2; left = picked.3 })
