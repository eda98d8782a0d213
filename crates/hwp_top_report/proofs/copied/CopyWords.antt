-- Each store that copied a page and was answered `stored` kept the words of the page.
use Rattle.std.proofs.Common.{◌≡◌, ℕ, Bool, List, Option, None, Some, if◌then◌else◌, refl, ap, ◌∙◌}
use Rattle.std.proofs.lemmas.Bool.{eq-eqb}
use Rattle.hwp_law_served.specs.hwp_geom.declared.Cpu.{Cpu}
use Rattle.hwp_law_served.specs.hwp_geom.declared.VSlot.{VSlot}
use Rattle.hwp_law_served.specs.hwp_geom.declared.Who.{Who}
use Rattle.hwp_law_served.specs.hwp_page.declared.What.{What}
use Rattle.hwp_law_served.specs.hwp_core_rule.declared.State.{State}
use Rattle.hwp_law_served.specs.hwp_core_rule.Lists.{SomeMember}
use Rattle.hwp_law_served.specs.hwp_script_words.declared.Script.{Script}
use Rattle.hwp_law_served.specs.hwp_report_text.declared.Report.{Report}
use Rattle.hwp_law_served.specs.hwp_law.Copies.{own_in}
use Rattle.hwp_law_served.proofs.RunEnds.{IsEnd}
use Rattle.hwp_law_served.proofs.marks.Marked.{any-of}
use Rattle.hwp_law_served.proofs.copied.KeptWords.{HasLoaded, kept-words}
use Rattle.hwp_top_report.specs.CopiedWords.{CopiesKeepWords, word_loaded}

loads-it : (from : VSlot) (line word : ℕ) (what : What) → HasLoaded from line word what → word_loaded line what ≡ Some word
loads-it from line word what is = ap (word_loaded line) is.what_is ∙ ap (λ (b : Bool). if b then Some word else None) (eq-eqb line line refl)

some-loaded : (from : VSlot) (line word : ℕ) (l : List What) → SomeMember (HasLoaded from line word) l → SomeMember (λ (what : What). word_loaded line what ≡ Some word) l
some-loaded from line word l (i, what, there, is) = (i, what, there, loads-it from line word what is)

pub copies-keep-words : (script : Script) (copies : Who → Option VSlot) (seat : Cpu → ℕ) (last : State) (report : Report) → IsEnd script copies seat last report → CopiesKeepWords script copies report
copies-keep-words script copies seat last report end who thread from to own word line at command copied answered within =
    let kept = kept-words script copies seat last report end who thread from to own word line at command copied answered within in
    record {
      stored = kept.stored;
      last = kept.last;
      same = kept.same;
      other = λ differs. any-of (λ (what : What). word_loaded line what ≡ Some kept.stored) (own_in script.layout report who from) (some-loaded from line kept.stored (own_in script.layout report who from) (kept.other differs));
    }
