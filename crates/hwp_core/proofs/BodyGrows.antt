-- A body in hand whose entries rest on what its command saw: more sights take nothing away.
use Rattle.std.proofs.Common.{◌≡◌, ◌⊎◌, inl, inr, ℕ, ◌+◌, ◌≤◌, List, [], ◌∷◌, ◌++◌, Option, length, drop, sym, subst, arith}
use Rattle.std.proofs.lemmas.List.{drop-append-le, length-append}
use Rattle.hwp_core_rule.specs.hwp_geom.declared.Layout.{Layout}
use Rattle.hwp_core_rule.specs.hwp_geom.declared.Who.{Who}
use Rattle.hwp_core_rule.specs.hwp_page.declared.What.{What}
use Rattle.hwp_core_rule.specs.hwp_geom.declared.Frame.{Frame}
use Rattle.hwp_core_rule.specs.declared.InHand.{InHand}
use Rattle.hwp_core_rule.specs.declared.Log.{Log}
use Rattle.hwp_core_rule.specs.declared.Sight.{Sight}
use Rattle.hwp_core_rule.specs.Asks.{Extends}
use Rattle.hwp_core_rule.specs.parts.Entries.{HasSeen}
use Rattle.hwp_core_rule.proofs.Sights.{seen-more}

-- the same sights, or one more
abbrev pub Grown : List Sight → List Sight → Type 0
Grown old new = (new ≡ old) ⊎ ((s : Sight) × (new ≡ old ++ s ∷ []))

seen-since : (n : ℕ) (old : List Sight) (s : Sight) (who : Who) (frame : Option Frame) (what : What) → n ≤ length old → HasSeen (drop n old) who frame what → HasSeen (drop n (old ++ s ∷ [])) who frame what
seen-since n old s who frame what few has = subst (λ (l : List Sight). HasSeen l who frame what) (sym (drop-append-le n old (s ∷ []) few)) (seen-more (drop n old) s who frame what has)

pub extends-grown : {layout : Layout} {who : Who} {old new : List Sight} {body : InHand} {log : Log} → Grown old new → body.from ≤ length old → Extends layout who old body log → Extends layout who new body log
extends-grown {layout} {who} {old} {new} {body} {log} (inl same) few has = subst (λ (l : List Sight). Extends layout who l body log) (sym same) has
extends-grown {layout} {who} {old} {new} {body} {log} (inr more) few has = subst (λ (l : List Sight). Extends layout who l body log) (sym more.1) (record {
  page_is = has.page_is;
  longer = has.longer;
  leads = has.leads;
  own = has.own;
  seen = λ i e at. seen-since body.from old more.0 who body.frame e.what few (has.seen i e at);
})

pub length-grown : {old new : List Sight} {n : ℕ} → Grown old new → n ≤ length old → n ≤ length new
length-grown {old} {new} {n} (inl same) few = subst (λ (l : List Sight). n ≤ length l) (sym same) few
length-grown {old} {new} {n} (inr more) few = subst (λ (l : List Sight). n ≤ length l) (sym more.1) (let all : length (old ++ more.0 ∷ []) ≡ length old + 1 = length-append old (more.0 ∷ []) in omega (arith, all, few))
