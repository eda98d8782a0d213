-- The losses that listed entries make: each is of the file behind the page.
use Rattle.std.proofs.Common.{◌≡◌, ℕ, zero, suc, ◌+◌, ◌<◌, ◌==◌, Bool, true, false, true≢false, cond, List, [], ◌∷◌, ◌++◌, Option, Some, None, length, slice_get, option_and_then, length-append, refl, sym, ap, ◌∙◌, subst, arith}
use Rattle.std.proofs.lemmas.List.Elements.{All-get_or}
use Rattle.std.proofs.lemmas.List.Sums.{sum_by-cons, sum_by-append}
use Rattle.std.proofs.lemmas.Option.{none-some, same_Some, slice_get_within, get_or_from_slice_get}
use Rattle.std.specs.Int.{from_bool}
use Rattle.std.specs.List.{sum_by}
use Rattle.hwp_page.specs.hwp_geom.declared.FileNo.{FileNo}
use Rattle.hwp_page.specs.hwp_geom.declared.Frame.{Frame}
use Rattle.hwp_page.specs.hwp_geom.declared.Layout.{Layout}
use Rattle.hwp_page.specs.hwp_geom.declared.Page.{Page}
use Rattle.hwp_page.specs.hwp_geom.declared.PageKind.{PageKind}
use Rattle.hwp_page.specs.hwp_geom.declared.PageKind.TheVariants.{Anon, File}
use Rattle.hwp_page.specs.hwp_geom.Layout.{IsSound, IsBacked, is_locked}
use Rattle.hwp_page.specs.declared.Entry.{Entry}
use Rattle.hwp_page.specs.declared.Met.TheVariants.{Word, Sigbus}
use Rattle.hwp_page.specs.declared.PageState.{PageState}
use Rattle.hwp_page.specs.declared.Situation.{Situation}
use Rattle.hwp_page.specs.declared.Situation.TheVariants as situations
use Rattle.hwp_page.specs.declared.What.{What}
use Rattle.hwp_page.specs.declared.What.TheVariants as entries
use Rattle.hwp_page.specs.Actions.{acted, situation_by, situation_of}
use Rattle.hwp_page.specs.History.{Leads, state_after}
use Rattle.hwp_page.specs.Losses.{is_loss, is_same_file, file_behind, losses_in}
use Rattle.hwp_page.specs.Step.{Allowed, after}
use Rattle.hwp_core_rule.specs.declared.log.Log.{Log}
use Rattle.hwp_core_rule.specs.declared.view.Made.{Made}
use Rattle.hwp_core_rule.specs.declared.view.Stamp.{Stamp}
use Rattle.hwp_core_rule.specs.Lists.{EachMember}
use Rattle.hwp_core_rule.specs.Logs.{opening_at, state_of, file_of}
use Rattle.hwp_core_rule.specs.Views.{loss_made, losses_made, made_from}
use Rattle.hwp_core_rule.proofs.MoreEntries.{each-append}

-- ---- the kind of a page stays

acted-kind : (s : PageState) (situation : Situation) → (acted s situation).kind ≡ s.kind
acted-kind s situations.Free = refl
acted-kind s situations.Kernel = refl
acted-kind s situations.FileClean = refl
acted-kind s situations.FileDirty = refl
acted-kind s situations.AnonOnly = refl
acted-kind s situations.SwapClean = refl
acted-kind s situations.SwapDirty = refl
acted-kind s situations.LockedClean = refl
acted-kind s situations.LockedFile = refl
acted-kind s situations.LockedAnon = refl

pub after-kind : (s : PageState) (what : What) → (after s what).kind ≡ s.kind
after-kind s (entries.Load slot line met) = refl
after-kind s (entries.Store slot line (Word mask word)) = refl
after-kind s (entries.Store slot line (Sigbus thread)) = refl
after-kind s entries.FaultIn = refl
after-kind s (entries.Map slot) = refl
after-kind s (entries.Free slot) = refl
after-kind s entries.Drop = refl
after-kind s entries.Sync = refl
after-kind s entries.Out = refl
after-kind s (entries.Mce slot line mask) = refl
after-kind s (entries.Fail situation required seen signals) = acted-kind s situation
after-kind s entries.Soft = refl

pub state-kind : (s : PageState) (es : List Entry) → (state_after s es).kind ≡ s.kind
state-kind s [] = refl
state-kind s (e ∷ es) = state-kind (after s e.what) es ∙ after-kind s e.what

-- ---- a loss is of a file

-- the situations in which dirty content of a file is lost
abbrev is_file_loss : Situation → Bool
is_file_loss situations.FileDirty = true
is_file_loss situations.LockedFile = true
is_file_loss _ = false

anon-keeps : (locked dirty : Bool) (back : Option (List ℕ)) → is_file_loss (situation_by Anon locked dirty back) ≡ false
anon-keeps true dirty back = refl
anon-keeps false dirty None = refl
anon-keeps false true (Some words) = refl
anon-keeps false false (Some words) = refl

-- the file behind a page that is declared so, where dirty content of a file was lost
file-met : (o : Option PageKind) (locked : Bool) (s : PageState) → s.kind ≡ (opening_at o locked).kind → true ≡ is_file_loss (situation_of s) → (file : FileNo) × (option_and_then file_behind o ≡ Some file)
file-met None locked s kind lost = absurd (true≢false (lost ∙ ap (λ (k : PageKind). is_file_loss (situation_by k s.locked s.dirty s.back)) kind ∙ anon-keeps s.locked s.dirty s.back))
file-met (Some Anon) locked s kind lost = absurd (true≢false (lost ∙ ap (λ (k : PageKind). is_file_loss (situation_by k s.locked s.dirty s.back)) kind ∙ anon-keeps s.locked s.dirty s.back))
file-met (Some (File file fill)) locked s kind lost = (file, refl)

loss-behind : (layout : Layout) (page : Page) (s : PageState) (what : What) → s.kind ≡ (opening_at (slice_get layout.pages page.0) (is_locked layout page)).kind → Allowed layout page s what → is_loss what ≡ true
    → (file : FileNo) × (file_of layout page ≡ Some file)
loss-behind layout page s (entries.Load slot line met) kind allowed loss = absurd (true≢false (sym loss))
loss-behind layout page s (entries.Store slot line met) kind allowed loss = absurd (true≢false (sym loss))
loss-behind layout page s entries.FaultIn kind allowed loss = absurd (true≢false (sym loss))
loss-behind layout page s (entries.Map slot) kind allowed loss = absurd (true≢false (sym loss))
loss-behind layout page s (entries.Free slot) kind allowed loss = absurd (true≢false (sym loss))
loss-behind layout page s entries.Drop kind allowed loss = absurd (true≢false (sym loss))
loss-behind layout page s entries.Sync kind allowed loss = absurd (true≢false (sym loss))
loss-behind layout page s entries.Out kind allowed loss = absurd (true≢false (sym loss))
loss-behind layout page s (entries.Mce slot line mask) kind allowed loss = absurd (true≢false (sym loss))
loss-behind layout page s (entries.Fail situations.Free required seen signals) kind allowed loss = absurd (true≢false (sym loss))
loss-behind layout page s (entries.Fail situations.Kernel required seen signals) kind allowed loss = absurd (true≢false (sym loss))
loss-behind layout page s (entries.Fail situations.FileClean required seen signals) kind allowed loss = absurd (true≢false (sym loss))
loss-behind layout page s (entries.Fail situations.FileDirty required seen signals) kind allowed loss = file-met (slice_get layout.pages page.0) (is_locked layout page) s kind (ap is_file_loss allowed.actual)
loss-behind layout page s (entries.Fail situations.AnonOnly required seen signals) kind allowed loss = absurd (true≢false (sym loss))
loss-behind layout page s (entries.Fail situations.SwapClean required seen signals) kind allowed loss = absurd (true≢false (sym loss))
loss-behind layout page s (entries.Fail situations.SwapDirty required seen signals) kind allowed loss = absurd (true≢false (sym loss))
loss-behind layout page s (entries.Fail situations.LockedClean required seen signals) kind allowed loss = absurd (true≢false (sym loss))
loss-behind layout page s (entries.Fail situations.LockedFile required seen signals) kind allowed loss = file-met (slice_get layout.pages page.0) (is_locked layout page) s kind (ap is_file_loss allowed.actual)
loss-behind layout page s (entries.Fail situations.LockedAnon required seen signals) kind allowed loss = absurd (true≢false (sym loss))
loss-behind layout page s entries.Soft kind allowed loss = absurd (true≢false (sym loss))

-- ---- what is owed for entries

none-made : (file : Option FileNo) → loss_made file false ≡ []
none-made None = refl
none-made (Some file) = refl

pub nothing-lost : (b : Bool) → ◌≡◌ {A = ℕ} 0 (cond b 0 0)
nothing-lost true = refl
nothing-lost false = refl

pub apart : (b : Bool) (x y : ℕ) → cond b (x + y) 0 ≡ cond b x 0 + cond b y 0
apart true x y = refl
apart false x y = refl

-- of a file so many as the entries lost of it
pub made-of-file : (layout : Layout) (page : Page) (file : FileNo) (es : List Entry)
    → sum_by (λ (n : FileNo). from_bool (n.0 == file.0)) (losses_made layout page es) ≡ cond (is_same_file file (file_of layout page)) (losses_in es) 0
made-of-file layout page file [] = nothing-lost (is_same_file file (file_of layout page))
made-of-file layout page file (e ∷ es) =
    let rest : sum_by of_file (losses_made layout page es) ≡ cond same (losses_in es) 0 = made-of-file layout page file es in
    let both : sum_by of_file (loss_made (file_of layout page) (is_loss e.what) ++ losses_made layout page es) ≡ sum_by of_file (loss_made (file_of layout page) (is_loss e.what)) + sum_by of_file (losses_made layout page es) =
    sum_by-append of_file (loss_made (file_of layout page) (is_loss e.what)) (losses_made layout page es) in
    let first : sum_by of_file (loss_made (file_of layout page) (is_loss e.what)) ≡ cond same (from_bool (is_loss e.what)) 0 = one (file_of layout page) (is_loss e.what) in
    let all : losses_in (e ∷ es) ≡ from_bool (is_loss e.what) + losses_in es = sum_by-cons (λ (e : Entry). from_bool (is_loss e.what)) e es in
    let sums : cond same (losses_in (e ∷ es)) 0 ≡ cond same (from_bool (is_loss e.what)) 0 + cond same (losses_in es) 0 = ap (λ (n : ℕ). cond same n 0) all ∙ apart same (from_bool (is_loss e.what)) (losses_in es) in
    omega arith
  where
    of_file : FileNo → ℕ
    of_file n = from_bool (n.0 == file.0)

    same : Bool
    same = is_same_file file (file_of layout page)

    by-test : (b : Bool) → from_bool b ≡ cond b 1 0
    by-test true = refl
    by-test false = refl

    one : (o : Option FileNo) (b : Bool) → sum_by (λ (n : FileNo). from_bool (n.0 == file.0)) (loss_made o b) ≡ cond (is_same_file file o) (from_bool b) 0
    one None b = refl
    one (Some other) true =
        let single : sum_by of_file (other ∷ []) ≡ from_bool (other.0 == file.0) + sum_by of_file [] = sum_by-cons of_file other [] in
        let tested : from_bool (other.0 == file.0) ≡ cond (other.0 == file.0) 1 0 = by-test (other.0 == file.0) in
        omega arith
    one (Some other) false = nothing-lost (other.0 == file.0)

-- and so many are listed of it
pub listed-of-file : (layout : Layout) (file : FileNo) (stamp : Stamp) (page : Page) (frame : Option Frame) (place : ℕ) (es : List Entry)
    → sum_by (λ (m : Made). cond (is_same_file file (file_of layout m.page)) (from_bool (is_loss m.entry.what)) 0) (made_from stamp page frame place es) ≡ cond (is_same_file file (file_of layout page)) (losses_in es) 0
listed-of-file layout file stamp page frame place [] = nothing-lost (is_same_file file (file_of layout page))
listed-of-file layout file stamp page frame place (e ∷ es) =
    let rest : sum_by of_file (made_from stamp page frame (suc place) es) ≡ cond same (losses_in es) 0 = listed-of-file layout file stamp page frame (suc place) es in
    let both : sum_by of_file (made_from stamp page frame place (e ∷ es)) ≡ cond same (from_bool (is_loss e.what)) 0 + sum_by of_file (made_from stamp page frame (suc place) es) =
    sum_by-cons of_file (record { stamp = stamp; page = page; place = place; entry = e; frame = frame }) (made_from stamp page frame (suc place) es) in
    let all : losses_in (e ∷ es) ≡ from_bool (is_loss e.what) + losses_in es = sum_by-cons (λ (e : Entry). from_bool (is_loss e.what)) e es in
    let sums : cond same (losses_in (e ∷ es)) 0 ≡ cond same (from_bool (is_loss e.what)) 0 + cond same (losses_in es) 0 = ap (λ (n : ℕ). cond same n 0) all ∙ apart same (from_bool (is_loss e.what)) (losses_in es) in
    omega (arith, rest, both, sums)
  where
    of_file : Made → ℕ
    of_file m = cond (is_same_file file (file_of layout m.page)) (from_bool (is_loss m.entry.what)) 0

    same : Bool
    same = is_same_file file (file_of layout page)

-- one for each loss, since each loss is of a file
pub made-length : (layout : Layout) (page : Page) (s t : PageState) (es : List Entry) → s.kind ≡ (opening_at (slice_get layout.pages page.0) (is_locked layout page)).kind → Leads layout page s es t
    → length (losses_made layout page es) ≡ losses_in es
made-length layout page s t [] kind leads = refl
made-length layout page s t (e ∷ es) kind leads =
    let rest : length (losses_made layout page es) ≡ losses_in es = made-length layout page (after s e.what) t es (after-kind s e.what ∙ kind) leads.1 in
    let both : length (loss_made (file_of layout page) (is_loss e.what) ++ losses_made layout page es) ≡ length (loss_made (file_of layout page) (is_loss e.what)) + length (losses_made layout page es) =
    length-append (loss_made (file_of layout page) (is_loss e.what)) (losses_made layout page es) in
    let first : length (loss_made (file_of layout page) (is_loss e.what)) ≡ from_bool (is_loss e.what) = one (is_loss e.what) refl in
    let all : losses_in (e ∷ es) ≡ from_bool (is_loss e.what) + losses_in es = sum_by-cons (λ (e : Entry). from_bool (is_loss e.what)) e es in
    omega arith
  where
    one : (b : Bool) → is_loss e.what ≡ b → length (loss_made (file_of layout page) b) ≡ from_bool b
    one true is = let behind : (file : FileNo) × (file_of layout page ≡ Some file) = loss-behind layout page s e.what kind leads.0 is in ap (λ (o : Option FileNo). length (loss_made o true)) behind.1
    one false is = ap (λ (l : List FileNo). length l) (none-made (file_of layout page))

-- the same of what a body has more
pub owed-length : (layout : Layout) (page : Page) (log : Log) (t : PageState) (es : List Entry) → page ≡ log.page → Leads layout page (state_of layout log) es t → length (losses_made layout page es) ≡ losses_in es
owed-length layout page log t es is leads =
    made-length layout page (state_of layout log) t es (state-kind (opening_at (slice_get layout.pages log.page.0) (is_locked layout log.page)) log.entries ∙ ap (λ (p : Page). (opening_at (slice_get layout.pages p.0) (is_locked layout p)).kind) (sym is)) leads

-- a page with a file behind it is one of the layout, and so is the file
pub behind-within : (layout : Layout) (page : Page) (file : FileNo) → file_of layout page ≡ Some file → page.0 < length layout.pages
behind-within layout page file behind = which (slice_get layout.pages page.0) refl behind
  where
    which : (o : Option PageKind) → slice_get layout.pages page.0 ≡ o → option_and_then file_behind o ≡ Some file → page.0 < length layout.pages
    which None at is = absurd (none-some file is)
    which (Some kind) at is = slice_get_within layout.pages page.0 kind at

pub behind-declared : (layout : Layout) (page : Page) (file : FileNo) → IsSound layout → file_of layout page ≡ Some file → file.0 < layout.files
behind-declared layout page file sound behind = which (slice_get layout.pages page.0) refl behind
  where
    which : (o : Option PageKind) → slice_get layout.pages page.0 ≡ o → option_and_then file_behind o ≡ Some file → file.0 < layout.files
    which None at is = absurd (none-some file is)
    which (Some Anon) at is = absurd (none-some file is)
    which (Some (File other fill)) at is =
        let backed : IsBacked layout (File other fill) = subst (IsBacked layout) (get_or_from_slice_get layout.pages page.0 (File other fill) (File other fill) at)
        (All-get_or (IsBacked layout) layout.pages page.0 (File other fill) (slice_get_within layout.pages page.0 (File other fill) at) sound.page_names) in
        subst (λ (f : FileNo). f.0 < layout.files) (same_Some other file is) backed

pub made-declared : (layout : Layout) (page : Page) (es : List Entry) → IsSound layout → EachMember (λ (n : FileNo). n.0 < layout.files) (losses_made layout page es)
made-declared layout page [] sound = λ i n at. absurd (none-some n at)
made-declared layout page (e ∷ es) sound =
    each-append (λ (n : FileNo). n.0 < layout.files) (loss_made (file_of layout page) (is_loss e.what)) (losses_made layout page es) (one (file_of layout page) (is_loss e.what) refl) (made-declared layout page es sound)
  where
    one : (o : Option FileNo) (b : Bool) → file_of layout page ≡ o → EachMember (λ (n : FileNo). n.0 < layout.files) (loss_made o b)
    one None b is i n at = absurd (none-some n at)
    one (Some file) false is i n at = absurd (none-some n at)
    one (Some file) true is zero n at = subst (λ (n : FileNo). n.0 < layout.files) (same_Some file n at) (behind-declared layout page file sound is)
    one (Some file) true is (suc i) n at = absurd (none-some n at)
