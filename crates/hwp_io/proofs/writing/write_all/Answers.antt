use Rattle.std.proofs.Common.{◌++◌, take, ◌∙◌}
use Rattle.std.proofs.KnownBytes.{Appends-trans}
use Rattle.hwp_io.proofs.Pieces.{next_piece}
use Rattle.hwp_io.proofs.writing.write_all.Goals as goal

pub loop-rest-preserved : goal.loop-rest-preserved
loop-rest-preserved g c =
    let (done, split, appended, quiet) = c.loop-rest.invariant in
    let rest = c.loop-rest.rest.now in
    let n = c.in_ok-count.count in
    let wrote = c.in_ok-count.ensures in
    (done ++ take n rest, next_piece _ done rest n split, Appends-trans _ _ _ _ _ appended wrote.bytes, wrote.quiet ∙ quiet)
