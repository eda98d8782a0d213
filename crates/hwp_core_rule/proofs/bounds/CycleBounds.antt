-- How often a frame's poison was cleared: no more often than the processors can.
use Rattle.std.proofs.Common.{add-mul, ◌≡◌, ℕ, zero, suc, ◌+◌, ◌*◌, ◌<◌, ◌≤◌, ◌==◌, ◌&&◌, lt-ltb, eq-eqb, Bool, true, false, List, [], ◌∷◌, Some, map, length, slice_get, refl, sym, ap, ◌∙◌, subst, arith}
use Rattle.std.specs.Int.{from_bool}
use Rattle.std.specs.List.{sum_by}
use Rattle.std.proofs.lemmas.List.Sums.{sum_by-cons}
use Rattle.hwp_page.specs.hwp_geom.declared.Cpu.{Cpu}
use Rattle.hwp_page.specs.hwp_geom.declared.Layout.{Layout}
use Rattle.hwp_page.specs.hwp_geom.Limits.{command_limit}
use Rattle.hwp_words.specs.Frames.{cycle_of}
use Rattle.hwp_core_rule.specs.declared.view.Mark.{Mark}
use Rattle.hwp_core_rule.specs.declared.view.Part.{Part}
use Rattle.hwp_core_rule.specs.declared.view.View.{View}
use Rattle.hwp_core_rule.specs.Lists.{Homes}
use Rattle.hwp_core_rule.specs.Rule.{FrameRule}
use Rattle.hwp_core_rule.specs.Words.{Words, sum_below}
use Rattle.hwp_core_rule.specs.parts.Counter.{is_revival}
use Rattle.hwp_core_rule.specs.parts.Holdings.{IsPast}
use Rattle.hwp_core_rule.specs.parts.Marks.{revivals, revivals_by}
use Rattle.hwp_core_rule.proofs.CountsBelow.{below-swap, below-zero, hit-one, sum-le, sum-add, sum-ones}
use Rattle.hwp_core_rule.proofs.Lists.{at_map, term-le, sum-map}
use Rattle.hwp_core_rule.proofs.bounds.RefBounds.{parts-number}

-- a sum over two lists
list-swap : {A B : Type 0} (g : A → B → ℕ) (l : List A) (m : List B) → sum_by (λ (x : A). sum_by (g x) m) l ≡ sum_by (λ (y : B). sum_by (λ (x : A). g x y) l) m
list-swap {A} {B} g [] m = sym (zeros m)
  where
    zeros : (m : List B) → sum_by (λ (y : B). sum_by (λ (x : A). g x y) []) m ≡ 0
    zeros [] = refl
    zeros (y ∷ ys) =
        let rest : sum_by (λ (y : B). sum_by (λ (x : A). g x y) []) ys ≡ 0 = zeros ys in
        let all : sum_by (λ (y : B). sum_by (λ (x : A). g x y) []) (y ∷ ys) ≡ 0 + sum_by (λ (y : B). sum_by (λ (x : A). g x y) []) ys = sum_by-cons (λ (y : B). sum_by (λ (x : A). g x y) []) y ys in
        omega arith
list-swap {A} {B} g (x ∷ xs) m =
    let one : sum_by (λ (x : A). sum_by (g x) m) (x ∷ xs) ≡ sum_by (g x) m + sum_by (λ (x : A). sum_by (g x) m) xs = sum_by-cons (λ (x : A). sum_by (g x) m) x xs in
    let rest : sum_by (λ (x : A). sum_by (g x) m) xs ≡ sum_by (λ (y : B). sum_by (λ (x : A). g x y) xs) m = list-swap g xs m in
    let parts : sum_by (λ (y : B). sum_by (λ (x : A). g x y) (x ∷ xs)) m ≡ sum_by (λ (y : B). g x y + sum_by (λ (x : A). g x y) xs) m = ap (λ (f : B → ℕ). sum_by f m) (λ i y. sum_by-cons (λ (x : A). g x y) x xs i) in
    let both : sum_by (λ (y : B). g x y + sum_by (λ (x : A). g x y) xs) m ≡ sum_by (g x) m + sum_by (λ (y : B). sum_by (λ (x : A). g x y) xs) m = sum-add (g x) (λ (y : B). sum_by (λ (x : A). g x y) xs) m in
    omega arith

-- a term of each number, for a list of so many
sum-scale : {A : Type 0} (f : A → ℕ) (k : ℕ) (l : List A) → sum_by (λ (x : A). f x * k) l ≡ sum_by f l * k
sum-scale f k [] = omega arith
sum-scale {A} f k (x ∷ xs) =
    let one : sum_by (λ (x : A). f x * k) (x ∷ xs) ≡ f x * k + sum_by (λ (x : A). f x * k) xs = sum_by-cons (λ (x : A). f x * k) x xs in
    let rest : sum_by (λ (x : A). f x * k) xs ≡ sum_by f xs * k = sum-scale f k xs in
    let all : sum_by f (x ∷ xs) ≡ f x + sum_by f xs = sum_by-cons f x xs in
    let product : (f x + sum_by f xs) * k ≡ f x * k + sum_by f xs * k = add-mul (f x) (sum_by f xs) k in
    one ∙ ap (λ (n : ℕ). f x * k + n) rest ∙ sym product ∙ ap (λ (n : ℕ). n * k) (sym all)

below-ones : (f : ℕ → ℕ) (n : ℕ) → ((i : ℕ) → i < n → f i ≡ 1) → sum_below f n ≡ n
below-ones f zero each = refl
below-ones f (suc n) each =
    let last : f n ≡ 1 = each n (omega arith) in
    let rest : sum_below f n ≡ n = below-ones f n (λ i less. each i (omega arith)) in
    omega arith

abbrev pub is_clearing : Mark → ℕ
is_clearing m = from_bool (is_revival m.kind)

module _ (layout : Layout) (w : Words) (homes : Homes) (views : List View) (h : FrameRule layout w homes views) where
  -- a mark is of one cycle
  of-one : (f n : ℕ) (m : Mark) → sum_below (λ c. from_bool ((m.frame.0 == f) && ((m.cycle == c) && is_revival m.kind))) n ≤ is_clearing m
  of-one f n m = which (m.frame.0 == f) (is_revival m.kind)
    where
      neither : (b : Bool) → from_bool (b && false) ≡ 0
      neither true = refl
      neither false = refl

      same : (b : Bool) → b ≡ (b && true)
      same true = refl
      same false = refl

      which : (a r : Bool) → sum_below (λ c. from_bool (a && ((m.cycle == c) && r))) n ≤ from_bool r
      which false r = let none : sum_below (λ c. 0) n ≡ 0 = below-zero (λ c. 0) n (λ i less. refl) in omega arith
      which true false = let none : sum_below (λ c. from_bool ((m.cycle == c) && false)) n ≡ 0 = below-zero (λ c. from_bool ((m.cycle == c) && false)) n (λ i less. neither (m.cycle == i)) in omega arith
      which true true = subst (λ (g : ℕ → ℕ). sum_below g n ≤ 1) (λ i c. from_bool (same (m.cycle == c) i)) (hit-one m.cycle (λ c. c) n (λ i j less e. let e : i ≡ j = e in omega arith))

  -- the cycles of a frame are at most all marks of cleared poison
  cycles-marked : (f word : ℕ) → slice_get w.frames f ≡ Some word → cycle_of word ≤ sum_by (sum_by is_clearing) (map (λ (v : View). v.marks) views)
  cycles-marked f word there =
      let ones : sum_below (λ c. revivals f c (map (λ (v : View). v.marks) views)) (cycle_of word) ≡ cycle_of word = below-ones (λ c. revivals f c (map (λ (v : View). v.marks) views)) (cycle_of word)
      (λ c less. h.failures.marks.revived f word c there ∙ ap from_bool (lt-ltb c (cycle_of word) less)) in
      let swapped : sum_below (λ c. revivals f c (map (λ (v : View). v.marks) views)) (cycle_of word) ≡ sum_by (λ (l : List Mark). sum_below (λ c. of c l) (cycle_of word)) (map (λ (v : View). v.marks) views) =
      below-swap of (map (λ (v : View). v.marks) views) (cycle_of word) in
      let few : sum_by (λ (l : List Mark). sum_below (λ c. of c l) (cycle_of word)) (map (λ (v : View). v.marks) views) ≤ sum_by (sum_by is_clearing) (map (λ (v : View). v.marks) views) =
      sum-le (λ (l : List Mark). sum_below (λ c. of c l) (cycle_of word)) (sum_by is_clearing) (map (λ (v : View). v.marks) views) (λ i l e. each l) in
      omega arith
    where
      of : ℕ → List Mark → ℕ
      of c l = sum_by (λ (m : Mark). from_bool ((m.frame.0 == f) && ((m.cycle == c) && is_revival m.kind))) l

      each : (l : List Mark) → sum_below (λ c. of c l) (cycle_of word) ≤ sum_by is_clearing l
      each l =
          let swapped : sum_below (λ c. of c l) (cycle_of word) ≡ sum_by (λ (m : Mark). sum_below (λ c. from_bool ((m.frame.0 == f) && ((m.cycle == c) && is_revival m.kind))) (cycle_of word)) l =
          below-swap (λ c (m : Mark). from_bool ((m.frame.0 == f) && ((m.cycle == c) && is_revival m.kind))) l (cycle_of word) in
          let few : sum_by (λ (m : Mark). sum_below (λ c. from_bool ((m.frame.0 == f) && ((m.cycle == c) && is_revival m.kind))) (cycle_of word)) l ≤ sum_by is_clearing l =
          sum-le (λ (m : Mark). sum_below (λ c. from_bool ((m.frame.0 == f) && ((m.cycle == c) && is_revival m.kind))) (cycle_of word)) is_clearing l (λ i m e. of-one f (cycle_of word) m) in
          omega arith

  -- a view's are by its processors, each of which clears few
  view-clears : (i : ℕ) (v : View) → slice_get views i ≡ Some v → sum_by is_clearing v.marks ≤ length v.parts * command_limit
  view-clears i v at =
      let own : sum_by is_clearing v.marks ≤ sum_by (λ (m : Mark). sum_by (λ (p : Part). by p m) v.parts) v.marks =
      sum-le is_clearing (λ (m : Mark). sum_by (λ (p : Part). by p m) v.parts) v.marks (λ j m e. mine m ((h.processors.commands.own i v at).marks j m e)) in
      let swapped : sum_by (λ (p : Part). sum_by (by p) v.marks) v.parts ≡ sum_by (λ (m : Mark). sum_by (λ (p : Part). by p m) v.parts) v.marks = list-swap by v.parts v.marks in
      let few : sum_by (λ (p : Part). sum_by (by p) v.marks) v.parts ≤ sum_by (λ (p : Part). 1 * command_limit) v.parts =
      sum-le (λ (p : Part). sum_by (by p) v.marks) (λ (p : Part). 1 * command_limit) v.parts (λ j p e. let few : revivals_by p.cpu v.marks ≤ command_limit = h.failures.marks.few i v.marks (at_map (λ (v : View). v.marks) views i v at) p.cpu in omega arith) in
      let scaled : sum_by (λ (p : Part). 1 * command_limit) v.parts ≡ sum_by (λ (p : Part). 1) v.parts * command_limit = sum-scale (λ (p : Part). 1) command_limit v.parts in
      let ones : sum_by (λ (p : Part). 1) v.parts ≡ length v.parts = sum-ones v.parts in
      subst (λ (n : ℕ). sum_by is_clearing v.marks ≤ n * command_limit) ones (subst (λ (n : ℕ). sum_by is_clearing v.marks ≤ n) scaled (omega (arith, own, swapped, few)))
    where
      by : Part → Mark → ℕ
      by p m = from_bool ((m.stamp.who.cpu.0 == p.cpu.0) && is_revival m.kind)

      mine : (m : Mark) → IsPast v.parts m.stamp.who → is_clearing m ≤ sum_by (λ (p : Part). by p m) v.parts
      mine m past =
          let here : by past.1 m ≤ sum_by (λ (p : Part). by p m) v.parts = term-le (λ (p : Part). by p m) v.parts past.0 past.1 past.2 in
          let same : (m.stamp.who.cpu.0 == past.1.cpu.0) ≡ true = eq-eqb m.stamp.who.cpu.0 past.1.cpu.0 (ap (λ (c : Cpu). c.0) (sym past.3.0)) in
          let is : by past.1 m ≡ is_clearing m = ap (λ (b : Bool). from_bool (b && is_revival m.kind)) same in
          omega (arith, here, is)

  pub cycles-few : (f word : ℕ) → slice_get w.frames f ≡ Some word → cycle_of word ≤ layout.cpus * command_limit
  cycles-few f word there =
      let marked : cycle_of word ≤ sum_by (sum_by is_clearing) (map (λ (v : View). v.marks) views) = cycles-marked f word there in
      let of_views : sum_by (sum_by is_clearing) (map (λ (v : View). v.marks) views) ≡ sum_by (λ (v : View). sum_by is_clearing v.marks) views = sum-map (sum_by is_clearing) (λ (v : View). v.marks) views in
      let few : sum_by (λ (v : View). sum_by is_clearing v.marks) views ≤ sum_by (λ (v : View). length v.parts * command_limit) views = sum-le (λ (v : View). sum_by is_clearing v.marks) (λ (v : View). length v.parts * command_limit) views view-clears in
      let scaled : sum_by (λ (v : View). length v.parts * command_limit) views ≡ sum_by (λ (v : View). length v.parts) views * command_limit = sum-scale (λ (v : View). length v.parts) command_limit views in
      let number : sum_by (λ (v : View). length v.parts) views ≡ layout.cpus =
      sym (sum-map (λ (l : List Part). length l) (λ (v : View). v.parts) views) ∙ parts-number layout (map (λ (v : View). v.parts) views) h.processors.processors in
      subst (λ (n : ℕ). cycle_of word ≤ n * command_limit) number (subst (λ (n : ℕ). cycle_of word ≤ n) scaled (omega (arith, marked, of_views, few)))
