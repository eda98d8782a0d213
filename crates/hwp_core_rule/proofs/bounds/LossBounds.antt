-- All loss words together are at most the poisonings that the views list; and the losses of a file that one view lists are at most
-- the file's loss word and those that it owes.
use Rattle.std.proofs.Common.{◌≡◌, ℕ, zero, suc, ◌+◌, ◌<◌, ◌≤◌, ◌==◌, eq-eqb, ne_eqb, Bool, cond, List, [], ◌∷◌, Option, Some, None, map, length, slice_get, slice_index, inl, inr, refl, sym, ap, ◌∙◌, arith}
use Rattle.std.specs.Int.{from_bool}
use Rattle.std.specs.List.{sum_by}
use Rattle.std.proofs.lemmas.List.Sums.{sum_by-cons}
use Rattle.std.proofs.lemmas.Option.{none-some, same_Some}
use Rattle.hwp_page.specs.hwp_geom.declared.FileNo.{FileNo}
use Rattle.hwp_page.specs.hwp_geom.declared.Layout.{Layout}
use Rattle.hwp_page.specs.hwp_geom.declared.Page.{Page}
use Rattle.hwp_page.specs.declared.Entry.{Entry}
use Rattle.hwp_page.specs.Losses.{is_loss, is_same_file, losses_in}
use Rattle.hwp_core_rule.specs.declared.log.Log.{Log}
use Rattle.hwp_core_rule.specs.declared.view.InHand.{InHand}
use Rattle.hwp_core_rule.specs.declared.view.Made.{Made}
use Rattle.hwp_core_rule.specs.declared.view.Mark.{Mark}
use Rattle.hwp_core_rule.specs.declared.view.Sight.{Sight}
use Rattle.hwp_core_rule.specs.declared.view.View.{View}
use Rattle.hwp_core_rule.specs.Lists.{EachMember, Homes, of_home, sum_all, sum_bodies}
use Rattle.hwp_core_rule.specs.Logs.{losses_of, file_of}
use Rattle.hwp_core_rule.specs.Rule.{FrameRule, losing_of}
use Rattle.hwp_core_rule.specs.Words.{Words, sum_below}
use Rattle.hwp_core_rule.specs.parts.Counter.{is_poisoning}
use Rattle.hwp_core_rule.specs.parts.Entries.{weigh, weigh_from}
use Rattle.hwp_core_rule.specs.parts.Losses.{Losing, made_of}
use Rattle.hwp_core_rule.specs.parts.Losses as parts
use Rattle.hwp_core_rule.proofs.CountsBelow.{below-le, below-add, below-zero, below-swap, sum-le, sum-ones, sum-add}
use Rattle.hwp_core_rule.proofs.Lists.{same-or, at_map, sum-map}
use Rattle.hwp_core_rule.proofs.OwedLosses.{apart, nothing-lost}
use Rattle.hwp_core_rule.proofs.WordsByKind.{word-there}

-- what falls on one number is counted once at most, and once where the number is below n
hit-times : (a x n : ℕ) → sum_below (λ i. cond (a == i) x 0) n ≤ x
hit-times a x zero = omega arith
hit-times a x (suc n) = elim (same-or a n) [
  | inl same ↦
      let last : cond (a == n) x 0 ≡ x = ap (λ (b : Bool). cond b x 0) (eq-eqb a n same) in
      let rest : sum_below (λ i. cond (a == i) x 0) n ≡ 0 = below-zero (λ i. cond (a == i) x 0) n (λ i before. ap (λ (b : Bool). cond b x 0) (ne_eqb a i (λ e. let e : a ≡ i = e in omega (arith, same)))) in
      omega arith
  | inr other ↦
      let last : cond (a == n) x 0 ≡ 0 = ap (λ (b : Bool). cond b x 0) (ne_eqb a n other) in
      let rest : sum_below (λ i. cond (a == i) x 0) n ≤ x = hit-times a x n in
      omega arith
]

hit-there : (a n : ℕ) → a < n → 1 ≤ sum_below (λ i. from_bool (a == i)) n
hit-there a zero less = absurd (omega (arith, less))
hit-there a (suc n) less = elim (same-or a n) [
  | inl same ↦ let last : from_bool (a == n) ≡ 1 = ap from_bool (eq-eqb a n same) in omega arith
  | inr other ↦ let rest : 1 ≤ sum_below (λ i. from_bool (a == i)) n = hit-there a n (omega (arith, less, other)) in omega arith
]

abbrev lost : Log → ℕ
lost log = losses_in log.entries

abbrev is_lost : Page → ℕ → Entry → ℕ
is_lost page place e = from_bool (is_loss e.what)

weigh-lost : (log : Log) → weigh is_lost log ≡ lost log
weigh-lost log = from 0 log.entries
  where
    from : (place : ℕ) (es : List Entry) → weigh_from is_lost log.page place es ≡ losses_in es
    from place [] = refl
    from place (e ∷ es) =
        let rest : weigh_from is_lost log.page (suc place) es ≡ losses_in es = from (suc place) es in
        let all : losses_in (e ∷ es) ≡ from_bool (is_loss e.what) + losses_in es = sum_by-cons (λ (e : Entry). from_bool (is_loss e.what)) e es in
        omega arith

module _ (layout : Layout) (w : Words) (homes : Homes) (views : List View) (wide : length w.losses ≡ layout.files) (h : FrameRule layout w homes views) where
  abbrev n : ℕ
  n = layout.files

  abbrev bodies : List (List InHand)
  bodies = map (λ (v : View). v.bodies) views

  abbrev of_file : ℕ → Log → ℕ
  of_file f log = losses_of layout (record { 0 = f }) log

  -- a history's losses are of one file
  of-one : (log : Log) → sum_below (λ f. of_file f log) n ≤ lost log
  of-one log = which (file_of layout log.page)
    where
      which : (o : Option FileNo) → sum_below (λ f. cond (is_same_file (record { 0 = f }) o) (lost log) 0) n ≤ lost log
      which None = let none : sum_below (λ f. 0) n ≡ 0 = below-zero (λ f. 0) n (λ i before. refl) in omega arith
      which (Some file) = hit-times file.0 (lost log) n

  in-homes : sum_below (λ f. sum_by (of_home (of_file f)) homes) n ≤ sum_by (of_home lost) homes
  in-homes =
      let swapped : sum_below (λ f. sum_by (of_home (of_file f)) homes) n ≡ sum_by (λ (x : Option (Option Log)). sum_below (λ f. of_home (of_file f) x) n) homes = below-swap (λ f (x : Option (Option Log)). of_home (of_file f) x) homes n in
      let few : sum_by (λ (x : Option (Option Log)). sum_below (λ f. of_home (of_file f) x) n) homes ≤ sum_by (of_home lost) homes =
      sum-le (λ (x : Option (Option Log)). sum_below (λ f. of_home (of_file f) x) n) (of_home lost) homes (λ i x e. each x) in
      omega arith
    where
      none : sum_below (λ f. 0) n ≤ 0
      none = let all : sum_below (λ f. 0) n ≡ 0 = below-zero (λ f. 0) n (λ i before. refl) in omega arith

      each : (x : Option (Option Log)) → sum_below (λ f. of_home (of_file f) x) n ≤ of_home lost x
      each None = none
      each (Some None) = none
      each (Some (Some log)) = of-one log

  in-hands : sum_below (λ f. sum_all (λ (b : InHand). of_file f b.log) bodies) n ≤ sum_all (λ (b : InHand). lost b.log) bodies
  in-hands =
      let swapped : sum_below (λ f. sum_all (λ (b : InHand). of_file f b.log) bodies) n ≡ sum_by (λ (l : List InHand). sum_below (λ f. sum_by (λ (b : InHand). of_file f b.log) l) n) bodies =
      below-swap (λ f (l : List InHand). sum_by (λ (b : InHand). of_file f b.log) l) bodies n in
      let few : sum_by (λ (l : List InHand). sum_below (λ f. sum_by (λ (b : InHand). of_file f b.log) l) n) bodies ≤ sum_all (λ (b : InHand). lost b.log) bodies =
      sum-le (λ (l : List InHand). sum_below (λ f. sum_by (λ (b : InHand). of_file f b.log) l) n) (sum_by (λ (b : InHand). lost b.log)) bodies (λ i l e. each l) in
      omega arith
    where
      each : (l : List InHand) → sum_below (λ f. sum_by (λ (b : InHand). of_file f b.log) l) n ≤ sum_by (λ (b : InHand). lost b.log) l
      each l =
          let swapped : sum_below (λ f. sum_by (λ (b : InHand). of_file f b.log) l) n ≡ sum_by (λ (b : InHand). sum_below (λ f. of_file f b.log) n) l = below-swap (λ f (b : InHand). of_file f b.log) l n in
          let few : sum_by (λ (b : InHand). sum_below (λ f. of_file f b.log) n) l ≤ sum_by (λ (b : InHand). lost b.log) l = sum-le (λ (b : InHand). sum_below (λ f. of_file f b.log) n) (λ (b : InHand). lost b.log) l (λ i b e. of-one b.log) in
          omega arith

  -- the views list all of them
  all-made : sum_bodies lost homes bodies ≡ sum_by (λ (v : View). sum_by (λ (m : Made). from_bool (is_loss m.entry.what)) v.made) views
  all-made =
      ap (λ (g : Log → ℕ). sum_bodies g homes bodies) (λ i log. sym (weigh-lost log) i)
      ∙ h.histories.entries.balance is_lost
      ∙ sum-map (λ (x : List Made × List Sight). sum_by (λ (m : Made). from_bool (is_loss m.entry.what)) x.0) (λ (v : View). (v.made, v.sights)) views

  abbrev owed_of : ℕ → View → ℕ
  owed_of f v = sum_by (λ (o : FileNo). from_bool (o.0 == f)) v.owed.losses

  -- and each that is owed is of a file of the layout
  all-owed : sum_by (λ (v : View). length v.owed.losses) views ≤ sum_below (λ f. sum_by (owed_of f) views) n
  all-owed =
      let swapped : sum_below (λ f. sum_by (owed_of f) views) n ≡ sum_by (λ (v : View). sum_below (λ f. owed_of f v) n) views = below-swap owed_of views n in
      let more : sum_by (λ (v : View). length v.owed.losses) views ≤ sum_by (λ (v : View). sum_below (λ f. owed_of f v) n) views =
      sum-le (λ (v : View). length v.owed.losses) (λ (v : View). sum_below (λ f. owed_of f v) n) views (λ i v e. each v (h.histories.losses.declared i (losing_of v) (at_map losing_of views i v e))) in
      omega arith
    where
      each : (v : View) → ((i : ℕ) (o : FileNo) → slice_get v.owed.losses i ≡ Some o → o.0 < n) → length v.owed.losses ≤ sum_below (λ f. owed_of f v) n
      each v declared =
          let swapped : sum_below (λ f. owed_of f v) n ≡ sum_by (λ (o : FileNo). sum_below (λ f. from_bool (o.0 == f)) n) v.owed.losses = below-swap (λ f (o : FileNo). from_bool (o.0 == f)) v.owed.losses n in
          let more : sum_by (λ (o : FileNo). 1) v.owed.losses ≤ sum_by (λ (o : FileNo). sum_below (λ f. from_bool (o.0 == f)) n) v.owed.losses =
          sum-le (λ (o : FileNo). 1) (λ (o : FileNo). sum_below (λ f. from_bool (o.0 == f)) n) v.owed.losses (λ i o e. hit-there o.0 n (declared i o e)) in
          let ones : sum_by (λ (o : FileNo). 1) v.owed.losses ≡ length v.owed.losses = sum-ones v.owed.losses in
          omega arith

  word-le : (f : ℕ) → f < n → slice_index w.losses f + sum_by (owed_of f) views ≤ sum_bodies (of_file f) homes bodies
  word-le f less =
      let balance : slice_index w.losses f + sum_by (λ (v : Losing). sum_by (λ (o : FileNo). from_bool (o.0 == f)) v.owed) (map losing_of views)
      ≡ sum_bodies (of_file f) homes bodies = h.histories.losses.balance (record { 0 = f }) (slice_index w.losses f) (word-there w.losses f n wide less) in
      let owed : sum_by (λ (v : Losing). sum_by (λ (o : FileNo). from_bool (o.0 == f)) v.owed) (map losing_of views) ≡ sum_by (owed_of f) views = sum-map (λ (v : Losing). sum_by (λ (o : FileNo). from_bool (o.0 == f)) v.owed) losing_of views in
      omega arith

  pub losses-poisoned : sum_below (slice_index w.losses) n ≤ sum_by (λ (v : View). sum_by (λ (m : Mark). from_bool (is_poisoning m.kind)) v.marks) views
  losses-poisoned =
      let words : sum_below (λ f. slice_index w.losses f + sum_by (owed_of f) views) n ≤ sum_below (λ f. sum_bodies (of_file f) homes bodies) n = below-le (λ f. slice_index w.losses f + sum_by (owed_of f) views) (λ f. sum_bodies (of_file f) homes bodies) n word-le in
      let apart : sum_below (λ f. slice_index w.losses f + sum_by (owed_of f) views) n ≡ sum_below (slice_index w.losses) n + sum_below (λ f. sum_by (owed_of f) views) n = below-add (slice_index w.losses) (λ f. sum_by (owed_of f) views) n in
      let everywhere : sum_below (λ f. sum_bodies (of_file f) homes bodies) n ≡ sum_below (λ f. sum_by (of_home (of_file f)) homes) n + sum_below (λ f. sum_all (λ (b : InHand). of_file f b.log) bodies) n =
      below-add (λ f. sum_by (of_home (of_file f)) homes) (λ f. sum_all (λ (b : InHand). of_file f b.log) bodies) n in
      let made : sum_by (of_home lost) homes + sum_all (λ (b : InHand). lost b.log) bodies ≡ sum_by (λ (v : View). sum_by (λ (m : Made). from_bool (is_loss m.entry.what)) v.made) views = all-made in
      let poisoned : sum_by (λ (v : View). sum_by (λ (m : Made). from_bool (is_loss m.entry.what)) v.made) views ≤ sum_by (λ (v : View). length v.owed.losses + sum_by (λ (m : Mark). from_bool (is_poisoning m.kind)) v.marks) views =
      sum-le (λ (v : View). sum_by (λ (m : Made). from_bool (is_loss m.entry.what)) v.made) (λ (v : View). length v.owed.losses + sum_by (λ (m : Mark). from_bool (is_poisoning m.kind)) v.marks) views (λ i v e. h.histories.losses.poisoned i (losing_of v) (at_map losing_of views i v e)) in
      let both : sum_by (λ (v : View). length v.owed.losses + sum_by (λ (m : Mark). from_bool (is_poisoning m.kind)) v.marks) views ≡ sum_by (λ (v : View). length v.owed.losses) views + sum_by (λ (v : View). sum_by (λ (m : Mark). from_bool (is_poisoning m.kind)) v.marks) views =
      sum-add (λ (v : View). length v.owed.losses) (λ (v : View). sum_by (λ (m : Mark). from_bool (is_poisoning m.kind)) v.marks) views in
      omega (arith, in-homes, in-hands, all-owed)

-- what one member has of the greater sum is more than what it has of the smaller one by no more than the sums are apart
one-apart : {A : Type 0} (f g : A → ℕ) (l : List A) (i : ℕ) (x : A) → EachMember (λ (y : A). f y ≤ g y) l → slice_get l i ≡ Some x → sum_by f l + g x ≤ sum_by g l + f x
one-apart f g [] i x each there = absurd (none-some x there)
one-apart f g (y ∷ ys) zero x each there =
    let of_f : f y ≡ f x = ap f (same_Some y x there) in
    let of_g : g y ≡ g x = ap g (same_Some y x there) in
    let rest : sum_by f ys ≤ sum_by g ys = sum-le f g ys (λ i z e. each (suc i) z e) in
    let all_f : sum_by f (y ∷ ys) ≡ f y + sum_by f ys = sum_by-cons f y ys in
    let all_g : sum_by g (y ∷ ys) ≡ g y + sum_by g ys = sum_by-cons g y ys in
    omega (arith, of_f, of_g, rest, all_f, all_g)
one-apart f g (y ∷ ys) (suc i) x each there =
    let first : f y ≤ g y = each zero y refl in
    let rest : sum_by f ys + g x ≤ sum_by g ys + f x = one-apart f g ys i x (λ j z e. each (suc j) z e) there in
    let all_f : sum_by f (y ∷ ys) ≡ f y + sum_by f ys = sum_by-cons f y ys in
    let all_g : sum_by g (y ∷ ys) ≡ g y + sum_by g ys = sum_by-cons g y ys in
    omega (arith, first, rest, all_f, all_g)

module _ (layout : Layout) (w : Words) (homes : Homes) (views : List View) (h : FrameRule layout w homes views) (file : FileNo) where
  abbrev is_lost_of : Page → ℕ → Entry → ℕ
  is_lost_of page place e = cond (is_same_file file (file_of layout page)) (from_bool (is_loss e.what)) 0

  weigh-lost-of : (log : Log) → weigh is_lost_of log ≡ losses_of layout file log
  weigh-lost-of log = from 0 log.entries
    where
      same : Bool
      same = is_same_file file (file_of layout log.page)

      from : (place : ℕ) (es : List Entry) → weigh_from is_lost_of log.page place es ≡ cond same (losses_in es) 0
      from place [] = nothing-lost same
      from place (e ∷ es) =
          let rest : weigh_from is_lost_of log.page (suc place) es ≡ cond same (losses_in es) 0 = from (suc place) es in
          let all : losses_in (e ∷ es) ≡ from_bool (is_loss e.what) + losses_in es = sum_by-cons (λ (e : Entry). from_bool (is_loss e.what)) e es in
          let sums : cond same (losses_in (e ∷ es)) 0 ≡ cond same (from_bool (is_loss e.what)) 0 + cond same (losses_in es) 0 = ap (λ (n : ℕ). cond same n 0) all ∙ apart same (from_bool (is_loss e.what)) (losses_in es) in
          omega (arith, rest, sums)

  -- the views list all losses of the file
  all-made-of : sum_bodies (losses_of layout file) homes (map (λ (v : View). v.bodies) views) ≡ sum_by (made_of layout file) (map losing_of views)
  all-made-of =
      ap (λ (g : Log → ℕ). sum_bodies g homes (map (λ (v : View). v.bodies) views)) (λ i log. sym (weigh-lost-of log) i)
      ∙ h.histories.entries.balance is_lost_of
      ∙ sum-map (λ (x : List Made × List Sight). sum_by (λ (m : Made). is_lost_of m.page m.place m.entry) x.0) (λ (v : View). (v.made, v.sights)) views
      ∙ sym (sum-map (made_of layout file) losing_of views)

  -- the losses of the file that a view lists are at most the word and those that it owes
  pub own-losses : (seat : ℕ) (v : View) (word : ℕ) → slice_get views seat ≡ Some v → slice_get w.losses file.0 ≡ Some word → made_of layout file (losing_of v) ≤ word + parts.owed_of file (losing_of v)
  own-losses seat v word me standing =
      let balance : word + sum_by (parts.owed_of file) (map losing_of views) ≡ sum_bodies (losses_of layout file) homes (map (λ (v : View). v.bodies) views) = h.histories.losses.balance file word standing in
      let made : sum_bodies (losses_of layout file) homes (map (λ (v : View). v.bodies) views) ≡ sum_by (made_of layout file) (map losing_of views) = all-made-of in
      let one : sum_by (parts.owed_of file) (map losing_of views) + made_of layout file (losing_of v) ≤ sum_by (made_of layout file) (map losing_of views) + parts.owed_of file (losing_of v) =
      one-apart (parts.owed_of file) (made_of layout file) (map losing_of views) seat (losing_of v) (h.histories.losses.owing file) (at_map losing_of views seat v me) in
      omega (arith, balance, made, one)
