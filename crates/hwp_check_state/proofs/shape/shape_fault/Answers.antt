use Rattle.std.proofs.Common.{rules, ◌≡◌, ◌≢◌, min, length}
use Rattle.hwp_check_rules.specs.Standing.{frame_line, page_line}
use Rattle.hwp_check_state.proofs.Shapes.{frames_first, pages_first}
use Rattle.hwp_check_state.proofs.shape.shape_fault.Goals as goal

-- src/shape.rt:66:9
pub returns-then-len-frames : goal.returns-then-len-frames
returns-then-len-frames c =
    let version : c.args.report.now.version ≡ c.args.script.now.layout.version = search rules in
    let files : length c.args.report.now.files ≡ c.args.script.now.layout.files = search rules in
    let differs : length c.args.report.now.frames ≢ c.args.script.now.layout.frames = search rules in
    let line : c.frame_at.result ≡ frame_line c.args.report.now (min (length c.args.report.now.frames) c.args.script.now.layout.frames) = search rules in
    frames_first c.args.script.now c.args.report.now c.frame_at.result version files differs line

-- src/shape.rt:69:9
pub returns-then-len-pages : goal.returns-then-len-pages
returns-then-len-pages c =
    let version : c.args.report.now.version ≡ c.args.script.now.layout.version = search rules in
    let files : length c.args.report.now.files ≡ c.args.script.now.layout.files = search rules in
    let frames : length c.args.report.now.frames ≡ c.args.script.now.layout.frames = search rules in
    let differs : length c.args.report.now.pages ≢ length c.args.script.now.layout.pages = search rules in
    let line : c.page_at.result ≡ page_line c.args.report.now (min (length c.args.report.now.pages) (length c.args.script.now.layout.pages)) = search rules in
    pages_first c.args.script.now c.args.report.now c.page_at.result version files frames differs line
