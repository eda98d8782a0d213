use Rattle.std.proofs.Common.{◌≡◌, ◌-◌, ◌+◌, ◌≤◌, ℕ, List, arith, length, min, ap, sym, ◌∙◌}
use Rattle.std.proofs.Math.ListN.{drop_of_length-le}
use Rattle.std.proofs.lemmas.List.{drop-drop, length-drop, take_rest}
use Rattle.hwp_io.specs.Calls.{Calls, SourceState}
use Rattle.hwp_io.proofs.Pieces.{piece_of_left, long-copied, taken-copied, rest-copied}
use Rattle.hwp_io.proofs.memory.MemSourceSource.read.Goals as goal

abbrev source : List ℕ → Calls → SourceState
source left calls = record { left = left; calls = calls }

same-source : (a b : List ℕ) (c d : Calls) → a ≡ b → c ≡ d → source a c ≡ source b d
same-source a b c d left calls = cc

pub returns-clause-bytes : goal.returns-clause-bytes
returns-clause-bytes c =
    let all = c.self.inside.bytes.items in
    let at = c.self.inside.at in
    let n = c.min-count.result in
    let count : n ≡ min (length all - at) (length c.args.buf.now) =
    rw c.deref.ensures.value at c.min-count.ensures ∙ ap (λ l. min l (length c.args.buf.now)) (ap length (take_rest all at) ∙ length-drop at all) in
    rw (← c.self.view_is) (
      piece_of_left all c.args.buf.now _ at n (omega arith) (rw c.deref.ensures.value at c.copy_from_slice.ensures.after),
      λ none some. drop_of_length-le all {i = at + n} (omega arith),
    )

pub returns-clause-bound : goal.returns-clause-bound
returns-clause-bound c =
    let fits : c.min-count.result ≤ length c.args.buf.now = omega (arith, c.min-count.ensures) in (
      omega (arith, long-copied c.args.buf.now c.copy_from_slice.new.self c.min-count.result fits c.copy_from_slice.ensures.len),
      taken-copied c.args.buf.now c.copy_from_slice.new.self c.min-count.result fits c.copy_from_slice.ensures.len,
    )

pub returns-clause-beyond : goal.returns-clause-beyond
returns-clause-beyond c = rest-copied c.args.buf.now c.copy_from_slice.new.self c.min-count.result (omega (arith, c.min-count.ensures)) c.copy_from_slice.ensures.len

pub returns-clause-count : goal.returns-clause-count
returns-clause-count c =
    let all = c.self.inside.bytes.items in
    let at = c.self.inside.at in
    let n = c.min-count.result in
    let count : n ≡ min (length all - at) (length c.args.buf.now) =
    rw c.deref.ensures.value at c.min-count.ensures ∙ ap (λ l. min l (length c.args.buf.now)) (ap length (take_rest all at) ∙ length-drop at all) in
    rw (← c.self.view_is) (omega (arith, count, length-drop at all, long-copied c.args.buf.now c.copy_from_slice.new.self n (omega arith) c.copy_from_slice.ensures.len))

pub returns-clause-given : goal.returns-clause-given
returns-clause-given c =
    rw (← c.self.view_is) (same-source _ _ _ _ (sym (drop-drop c.min-count.result c.self.inside.at c.self.inside.bytes.items)) c.if-next_fails.ensures.counts)
