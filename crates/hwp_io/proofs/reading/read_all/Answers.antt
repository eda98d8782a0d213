use Rattle.std.proofs.Common.{◌++◌, arith, take, length-append}
use Rattle.std.proofs.KnownBytes.{Consumes-trans}
use Rattle.hwp_io.proofs.reading.read_all.Goals as goal

pub returns-then-count-limit-clause-long : goal.returns-then-count-limit-clause-long
returns-then-count-limit-clause-long g c = λ _.
    let before = c.loop-bytes.bytes.items in
    let piece = take c.in_ok-count.count c.read.new.buf in
    let known = c.loop-bytes.bytes.ok in
    (before ++ piece, Consumes-trans _ _ _ before piece c.loop-bytes.invariant.front c.in_ok-count.ensures.bytes.0, omega (arith, length-append before piece, c.in_ok-count.ensures.bound.1))

pub returns-in_err-extend_from_slice-clause-short : goal.returns-in_err-extend_from_slice-clause-short
returns-in_err-extend_from_slice-clause-short g c = λ _.
    let before = c.loop-bytes.bytes.items in
    let piece = take c.in_ok-count.count c.read.new.buf in
    let known = c.loop-bytes.bytes.ok in
    (before ++ piece, Consumes-trans _ _ _ before piece c.loop-bytes.invariant.front c.in_ok-count.ensures.bytes.0, omega (arith, length-append before piece, c.in_ok-count.ensures.bound.1))
