-- The cache words stand in the list of all words, one for each page.
use Rattle.std.proofs.Common.{◌≡◌, ℕ, ◌+◌, ◌-◌, ◌≤◌, ◌<◌, ◌^◌, List, drop, take, length, ap, ◌∙◌, arith}
use Rattle.std.proofs.lemmas.List.{length-drop, length-take-le}
use Rattle.hwp_core_rule.specs.hwp_geom.declared.Layout.{Layout}
use Rattle.hwp_core_rule.specs.Words.{caches_from, size}
use Rattle.hwp_core_rule.specs.declared.State.{State}
use Rattle.hwp_core_rule.specs.Rule.{Holds}

pub caches-many : (layout : Layout) (s : State) → Holds layout s → (from len : ℕ) (words : List ℕ) → words ≡ s.words → from ≡ caches_from layout + 0 → len ≡ length layout.pages → length (take (from + len - from) (drop from words)) ≡ length layout.pages
caches-many layout s h from len words is at many =
    let room : length words ≡ size layout = ap length is ∙ h.words in
    let big : caches_from layout + length layout.pages ≤ size layout = omega arith in
    let count : from + len - from ≡ length layout.pages = omega (arith, many) in
    let enough : from + len - from ≤ length (drop from words) = omega (arith, room, big, length-drop from words, count, at) in length-take-le (from + len - from) (drop from words) enough ∙ count

pub range-fits : (layout : Layout) (s : State) → Holds layout s → (from len : ℕ) → from ≡ caches_from layout + 0 → len ≡ length layout.pages → from + len < 2 ^ 64
range-fits layout s h from len at many = omega (arith, at, many, h.sound.frames, h.sound.trans, h.sound.pages)
