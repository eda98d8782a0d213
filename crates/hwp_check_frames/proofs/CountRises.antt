-- How much a count rises, and that equality of numbers and of commands can be turned round.
use Rattle.std.proofs.Common.{◌≡◌, inl, inr, ℕ, ◌≤◌, ◌==◌, ◌&&◌, Bool, true, false, cond, sym, ap, ◌∙◌, arith}
use Rattle.std.proofs.lemmas.Bool.{cases_Bool, eq-eqb, eqb-false, eqb-true, ne_eqb}
use Rattle.hwp_check_rules.specs.hwp_geom.declared.Who.{Who}
use Rattle.hwp_check_rules.specs.hwp_law.Lines.{is_same_command}
use Rattle.hwp_check_frames.specs.Counts.{raise}

abbrev pub flag : Bool → ℕ
flag b = cond b 1 0

pub flag-one : (b : Bool) → flag b ≤ 1
flag-one true = omega arith
flag-one false = omega arith

pub raise-one : (x q : (ℕ × ℕ) × ℕ) → raise x q ≤ 1
raise-one x q = flag-one (((x.0.0 == q.0.0) && (x.0.1 == q.0.1)) && (x.1 == q.1))

pub eqb-swap : (a b : ℕ) → (a == b) ≡ (b == a)
eqb-swap a b = elim (cases_Bool (a == b)) [
  | inl is ↦ is ∙ sym (eq-eqb b a (sym (eqb-true a b is)))
  | inr not_so ↦ not_so ∙ sym (ne_eqb b a (λ e. eqb-false a b not_so (sym e)))
]

pub same-swap : (v w : Who) → ((v.cpu.0 == w.cpu.0) && (v.seq == w.seq)) ≡ is_same_command w v
same-swap v w = ap (λ (b : Bool). b && (v.seq == w.seq)) (eqb-swap v.cpu.0 w.cpu.0) ∙ ap (λ (b : Bool). (w.cpu.0 == v.cpu.0) && b) (eqb-swap v.seq w.seq)
