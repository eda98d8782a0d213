-- Entries of a body in hand that are listed keep the frame rule.
use Rattle.std.proofs.Common.{◌≡◌, ℕ, zero, suc, ◌+◌, ◌||◌, Bool, true, false, true≢false, List, [], ◌∷◌, ◌++◌, Option, Some, None, drop, length, slice_get, refl, sym, ap, ◌∙◌, subst, arith}
use Rattle.std.proofs.lemmas.List.Sums.{sum_by-cons}
use Rattle.std.proofs.lemmas.Option.{none-some, same_Some}
use Rattle.std.specs.List.{sum_by}
use Rattle.std.specs.Ordering.{nat_cmp}
use Rattle.hwp_page.specs.hwp_geom.declared.Frame.{Frame}
use Rattle.hwp_page.specs.hwp_geom.declared.Layout.{Layout}
use Rattle.hwp_page.specs.hwp_geom.declared.Page.{Page}
use Rattle.hwp_page.specs.hwp_geom.declared.Who.{Who}
use Rattle.hwp_page.specs.declared.Entry.{Entry}
use Rattle.hwp_page.specs.declared.Met.TheVariants.{Word}
use Rattle.hwp_page.specs.declared.What.{What}
use Rattle.hwp_core_rule.specs.declared.log.Log.{Log}
use Rattle.hwp_core_rule.specs.declared.view.Made.{Made}
use Rattle.hwp_core_rule.specs.declared.view.Sight.{Sight}
use Rattle.hwp_core_rule.specs.declared.view.Stamp.{Stamp}
use Rattle.hwp_core_rule.specs.Asks.{HasSameWords}
use Rattle.hwp_core_rule.specs.Lists.{EachMember, SomeMember}
use Rattle.hwp_core_rule.specs.Logs.{state_of, fitting_word}
use Rattle.hwp_core_rule.specs.Steps.{policy_at}
use Rattle.hwp_core_rule.specs.Views.{made_from}
use Rattle.hwp_core_rule.specs.parts.Entries.{weigh_from, HasMask, HasPolicy, HasSeen, Shows, AreInOrder}
use Rattle.hwp_core_rule.specs.parts.Fits.{Fits, FitsWords}
use Rattle.hwp_core_rule.proofs.Lists.{each-weaken}
use Rattle.std.specs.FinSet as sets
use Rattle.hwp_page.specs.declared.What.TheVariants as entries
use Rattle.hwp_page.specs.Orders.{IsNotLater}
use Rattle.hwp_core_rule.specs.declared.shared_word.SharedWord.TheVariants as places
use Rattle.hwp_page.specs.hwp_kill.declared.Seen.{Seen}

-- ---- lists of entries

pub each-append : {A : Type 0} (P : A → Type 0) (l m : List A) → EachMember P l → EachMember P m → EachMember P (l ++ m)
each-append P [] m each more i x e = more i x e
each-append P (y ∷ ys) m each more zero x e = each 0 x e
each-append P (y ∷ ys) m each more (suc i) x e = each-append P ys m (λ j z b. each (suc j) z b) more i x e

-- a member of what is left of a list is one of the list
pub some-drop : {A : Type 0} (P : A → Type 0) (n : ℕ) (l : List A) → SomeMember P (drop n l) → SomeMember P l
some-drop P zero l some = some
some-drop P (suc n) [] some = absurd (none-some some.1 some.2)
some-drop P (suc n) (x ∷ xs) some = let rest : SomeMember P xs = some-drop P n xs some in (suc rest.0, rest.1, rest.2, rest.3)

mask-drop : (n : ℕ) (sights : List Sight) (who : Who) (frame : Option Frame) (mask : ℕ) → HasMask (drop n sights) who frame mask → HasMask sights who frame mask
mask-drop n sights who None mask has = absurd has
mask-drop n sights who (Some frame) mask has = some-drop (Shows who frame (places.Bad frame) mask) n sights has

policy-drop : (n : ℕ) (sights : List Sight) (who : Who) (frame : Option Frame) (p : Seen) → HasPolicy (drop n sights) who frame p → HasPolicy sights who frame p
policy-drop n sights who None p has = absurd has
policy-drop n sights who (Some frame) p has = some-drop (Shows who frame (places.Policy p.thread) (policy_at p.n p.policy)) n sights has

-- what was seen of late was seen
pub seen-drop : (n : ℕ) (sights : List Sight) (who : Who) (frame : Option Frame) (what : What) → HasSeen (drop n sights) who frame what → HasSeen sights who frame what
seen-drop n sights who frame (entries.Load slot line (Word mask word)) has = mask-drop n sights who frame mask.0 has
seen-drop n sights who frame (entries.Store slot line (Word mask word)) has = mask-drop n sights who frame mask.0 has
seen-drop n sights who frame (entries.Mce slot line mask) has = mask-drop n sights who frame mask.0 has
seen-drop n sights who frame entries.Sync has = mask-drop n sights who frame 0 has
seen-drop n sights who frame entries.Out has = mask-drop n sights who frame 0 has
seen-drop n sights who frame entries.Soft has = mask-drop n sights who frame 0 has
seen-drop n sights who frame (entries.Fail situation required seen signals) has =
    each-weaken (HasPolicy (drop n sights) who frame) (HasPolicy sights who frame) seen (λ p has. policy-drop n sights who frame p has) has
seen-drop n sights who frame _ has = has

-- entries of a command follow those of commands that are no later
pub order-append : (xs ys : List Entry) (who : Who) → AreInOrder xs → EachMember (λ (e : Entry). IsNotLater e.who who) xs → EachMember (λ (e : Entry). e.who ≡ who) ys → AreInOrder (xs ++ ys)
order-append [] ys who ordered before own i j e f less at later same =
    let seqs : e.who.seq ≡ f.who.seq = ap (λ (z : Who). z.seq) (own i e at ∙ sym (own j f later)) in
    omega arith
order-append (x ∷ xs) ys who ordered before own i zero e f less at later same = absurd (omega (arith, less))
order-append (x ∷ xs) ys who ordered before own zero (suc j) e f less at later same =
    each-append (λ (f : Entry). IsNotLater e.who f.who) xs ys (λ k g there. ordered 0 (suc k) e g (omega arith) at there)
    (λ k g there. subst (IsNotLater e.who) (sym (own k g there)) (before 0 e at)) j f later same
order-append (x ∷ xs) ys who ordered before own (suc i) (suc j) e f less at later same =
    order-append xs ys who (λ k l g h under there here. ordered (suc k) (suc l) g h (omega (arith, under)) there here) (λ k g there. before (suc k) g there) own i j e f (omega (arith, less)) at later same

pub weigh-append : (g : Page → ℕ → Entry → ℕ) (page : Page) (place : ℕ) (xs ys : List Entry) → weigh_from g page place (xs ++ ys) ≡ weigh_from g page place xs + weigh_from g page (place + length xs) ys
weigh-append g page place [] ys =
    let same : place + 0 ≡ place = omega arith in
    let rest : weigh_from g page (place + 0) ys ≡ weigh_from g page place ys = ap (λ (n : ℕ). weigh_from g page n ys) same in
    omega arith
weigh-append g page place (x ∷ xs) ys =
    let rest : weigh_from g page (suc place) (xs ++ ys) ≡ weigh_from g page (suc place) xs + weigh_from g page (suc place + length xs) ys = weigh-append g page (suc place) xs ys in
    let later : weigh_from g page (suc place + length xs) ys ≡ weigh_from g page (place + suc (length xs)) ys = ap (λ (n : ℕ). weigh_from g page n ys) (omega arith) in
    omega arith

pub made-weigh : (g : Page → ℕ → Entry → ℕ) (stamp : Stamp) (page : Page) (frame : Option Frame) (place : ℕ) (es : List Entry)
    → sum_by (λ (m : Made). g m.page m.place m.entry) (made_from stamp page frame place es) ≡ weigh_from g page place es
made-weigh g stamp page frame place [] = refl
made-weigh g stamp page frame place (e ∷ es) =
    let rest : sum_by (λ (m : Made). g m.page m.place m.entry) (made_from stamp page frame (suc place) es) ≡ weigh_from g page (suc place) es = made-weigh g stamp page frame (suc place) es in
    let all : sum_by (λ (m : Made). g m.page m.place m.entry) (made_from stamp page frame place (e ∷ es)) ≡ g page place e + sum_by (λ (m : Made). g m.page m.place m.entry) (made_from stamp page frame (suc place) es) =
    sum_by-cons (λ (m : Made). g m.page m.place m.entry) (record { stamp = stamp; page = page; place = place; entry = e; frame = frame }) (made_from stamp page frame (suc place) es) in
    omega arith

-- each entry as it is made
pub made-each : (P : Made → Type 0) (stamp : Stamp) (page : Page) (frame : Option Frame) (place : ℕ) (es : List Entry)
    → EachMember (λ (e : Entry). (n : ℕ) → P (record { stamp = stamp; page = page; place = n; entry = e; frame = frame })) es → EachMember P (made_from stamp page frame place es)
made-each P stamp page frame place [] each i x e = absurd (none-some x e)
made-each P stamp page frame place (y ∷ ys) each zero x e = subst P (same_Some (record { stamp = stamp; page = page; place = place; entry = y; frame = frame }) x e) (each 0 y refl place)
made-each P stamp page frame place (y ∷ ys) each (suc i) x e = made-each P stamp page frame (suc place) ys (λ j z b. each (suc j) z b) i x e

pub or-left : (a b : Bool) → a ≡ true → (a || b) ≡ true
or-left true b e = refl
or-left false b e = absurd (true≢false (sym e))

-- the words that fit a state fit another that has the same in use
pub fits-same : (layout : Layout) (trans caches : List ℕ) (log was : Log) → log.page ≡ was.page → HasSameWords (state_of layout log) (state_of layout was) → Fits layout trans caches was → Fits layout trans caches log
fits-same layout trans caches log was page same fits cache at = record {
  cached = old.cached ∙ sym same.cached;
  used = λ n x t decl own there. old.used n x t decl (own ∙ page) there ∙ (λ i. word (sym same.maps i) (sym same.bar i) n);
}
  where
    old : FitsWords layout was cache trans
    old = fits cache (subst (λ (p : Page). slice_get caches p.0 ≡ Some cache) page at)

    word : sets.FinSet nat_cmp → sets.FinSet nat_cmp → ℕ → ℕ
    word maps bar n = fitting_word (record (state_of layout was) { maps = maps; bar = bar }) cache n
