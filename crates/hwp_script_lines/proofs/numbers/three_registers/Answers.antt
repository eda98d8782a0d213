use Rattle.std.proofs.Common.{[], subst, sym, arith}
use Rattle.std.proofs.lemmas.List.{length-map}
use Rattle.hwp_script_lines.specs.Numbers.{IsRegister, IsRegisterWord}
use Rattle.hwp_script_words.proofs.PairsLaws.{All-now, now-at}
use Rattle.hwp_script_lines.proofs.numbers.three_registers.Goals as goal

pub returns-in-None : goal.returns-in-None
returns-in-None c = (
  rw length-map (omega arith),
  λ all.
      let s = All-now IsRegisterWord c.args.words.now 0 _ (omega arith) all in
      let a = All-now IsRegisterWord c.args.words.now 1 _ (omega arith) all in
      let m = All-now IsRegisterWord c.args.words.now 2 _ (omega arith) all in c.in-None.ensures s.0 a.0 m.0 s.1 a.1 m.1,
)

pub returns-in_default : goal.returns-in_default
returns-in_default c = rw length-map (λ e. omega (arith, e, c.in_default.len_below))

pub returns-in_default-2 : goal.returns-in_default-2
returns-in_default-2 c = rw length-map (λ e. omega (arith, e, c.in_default.len_at_least))

pub returns-in-Some : goal.returns-in-Some
returns-in-Some c =
    let n = c.in-Some.values in record {
      three = rw length-map (omega arith);
      status = subst (λ w. IsRegister w n.0) (sym (now-at c.args.words.now 0 (record { ref_ptr = (0, 0); now = [] }) (omega arith))) c.in-Some.ensures.0;
      addr = subst (λ w. IsRegister w n.1) (sym (now-at c.args.words.now 1 (record { ref_ptr = (0, 0); now = [] }) (omega arith))) c.in-Some.ensures.1;
      misc = subst (λ w. IsRegister w n.2) (sym (now-at c.args.words.now 2 (record { ref_ptr = (0, 0); now = [] }) (omega arith))) c.in-Some.ensures.2;
    }
