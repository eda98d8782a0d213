-- Lists that are made of the numbers below one, and drawn one thing after the other.
use Rattle.std.proofs.Common.{◌≡◌, ℕ, zero, suc, ◌+◌, List, [], ◌∷◌, ◌++◌, refl, sym, ap, ◌∙◌, arith}
use Rattle.hwp_script_read.specs.hwp_script_lines.declared.Command.{Command}
use Rattle.rand_pcg.specs.Lcg.{Lcg}
use Rattle.hwp_script.specs.Generated.{commands_of, lists, many, one_more}
use Rattle.hwp_script.specs.Machine.{first}

one-more : (n : ℕ) → n + 1 ≡ suc n
one-more n = omega arith

pub first-none : {A : Type 0} (make : ℕ → A) → [] ≡ first make zero
unfolding first
first-none make = refl

pub first-more : {A : Type 0} (make : ℕ → A) (n : ℕ) (list : List A) → list ≡ first make n → list ++ make n ∷ [] ≡ first make (n + 1)
unfolding first
first-more {A} make n list is = ap (λ (l : List A). l ++ make n ∷ []) is ∙ ap (first make) (sym (one-more n))

pub many-none : {A : Type 0} (draw : Lcg → A × Lcg) (g : Lcg) → ([], g) ≡ many draw zero g
unfolding many
many-none draw g = refl

pub many-more : {A : Type 0} (draw : Lcg → A × Lcg) (n : ℕ) (g h : Lcg) (list : List A) → (list, h) ≡ many draw n g → (list ++ (draw h).0 ∷ [], (draw h).1) ≡ many draw (n + 1) g
unfolding many
many-more {A} draw n g h list is = ap (one_more draw) is ∙ ap (λ (m : ℕ). many draw m g) (sym (one-more n))

pub lists-none : (g : Lcg) → ([], g) ≡ lists zero g
unfolding lists
lists-none g = refl

pub lists-more : (n : ℕ) (g h : Lcg) (list : List (List Command)) → (list, h) ≡ lists n g → (list ++ (commands_of n h).0 ∷ [], (commands_of n h).1) ≡ lists (n + 1) g
unfolding lists
lists-more n g h list is = ap (one_more (commands_of n)) is ∙ ap (λ (m : ℕ). lists m g) (sym (one-more n))
