-- What a page holds that has nothing behind it: on each line the word that was stored there last, whatever came between.
use Rattle.std.proofs.Common.{◌≡◌, ℕ, zero, suc, ◌<◌, ◌==◌, Bool, true, false, List, [], ◌∷◌, Option, None, Some, filter_map, length, replicate, slice_get, slice_index, slice_set, take, unwrap_or, if◌then◌else◌, refl, sym, ap, ◌∙◌, subst, true≢false, arith}
use Rattle.std.proofs.lemmas.Bool.{eq-eqb, eqb-true, ne_eqb}
use Rattle.std.proofs.lemmas.List.{get_or-replicate, length-replicate}
use Rattle.std.proofs.lemmas.Option.{get_or_from_slice_get, none-some, same_Some, slice_get-get_or}
use Rattle.hwp_law_served.specs.hwp_geom.Limits.{line_limit}
use Rattle.hwp_law_served.specs.hwp_geom.Layout.{is_locked}
use Rattle.hwp_law_served.specs.hwp_geom.declared.Layout.{Layout}
use Rattle.hwp_law_served.specs.hwp_geom.declared.Mask.{Mask}
use Rattle.hwp_law_served.specs.hwp_geom.declared.Page.{Page}
use Rattle.hwp_law_served.specs.hwp_geom.declared.PageKind.{PageKind}
use Rattle.hwp_law_served.specs.hwp_geom.declared.PageKind.TheVariants.{Anon}
use Rattle.hwp_law_served.specs.hwp_geom.declared.VSlot.{VSlot}
use Rattle.hwp_law_served.specs.hwp_page.Actions.{acted, situation_by, situation_of}
use Rattle.hwp_law_served.specs.hwp_page.History.{IsReplay, Leads}
use Rattle.hwp_law_served.specs.hwp_page.Step.{Allowed, after, opening_of}
use Rattle.hwp_law_served.specs.hwp_page.declared.Entry.{Entry}
use Rattle.hwp_law_served.specs.hwp_page.declared.Met.TheVariants.{Sigbus, Word}
use Rattle.hwp_law_served.specs.hwp_page.declared.PageState.{PageState}
use Rattle.hwp_law_served.specs.hwp_page.declared.Situation.{Situation}
use Rattle.hwp_law_served.specs.hwp_page.declared.Situation.TheVariants as situations
use Rattle.hwp_law_served.specs.hwp_page.declared.What.{What}
use Rattle.hwp_law_served.specs.hwp_page.declared.What.TheVariants as entries
use Rattle.hwp_law_served.specs.hwp_law.Private.{last_word, word_in}
use Rattle.hwp_top_report.proofs.forks.Words.{last-cons}

-- nothing stands behind the page, and it has the word on the line
record Holds (s : PageState) (line word : ℕ) : Type 0 where
  anon : s.kind ≡ Anon
  held : slice_get s.val line ≡ Some word

-- ---- one entry

-- a failure of such a page takes no content from behind it
abbrev takes_content : Situation → Bool
takes_content situations.FileDirty = true
takes_content situations.LockedFile = true
takes_content s = false

none-taken : (locked dirty : Bool) (back : Option (List ℕ)) → takes_content (situation_by Anon locked dirty back) ≡ false
none-taken true dirty back = refl
none-taken false dirty None = refl
none-taken false true (Some words) = refl
none-taken false false (Some words) = refl

not-taken : (s : PageState) → s.kind ≡ Anon → takes_content (situation_of s) ≡ false
not-taken s anon = ap (λ (k : PageKind). takes_content (situation_by k s.locked s.dirty s.back)) anon ∙ none-taken s.locked s.dirty s.back

get-set : (xs : List ℕ) (i j y x : ℕ) → slice_get xs j ≡ Some x → slice_get (slice_set xs i y) j ≡ Some (unwrap_or (if i == j then Some y else None) x)
get-set [] i j y x is = absurd (none-some x is)
get-set (z ∷ zs) zero zero y x is = refl
get-set (z ∷ zs) zero (suc j) y x is = is ∙ ap (λ (b : Bool). Some (unwrap_or (if b then Some y else None) x)) (sym (ne_eqb zero (suc j) (λ e. omega (arith, e))))
get-set (z ∷ zs) (suc i) zero y x is = is ∙ ap (λ (b : Bool). Some (unwrap_or (if b then Some y else None) x)) (sym (ne_eqb (suc i) zero (λ e. omega (arith, e))))
get-set (z ∷ zs) (suc i) (suc j) y x is = get-set zs i j y x is ∙ ap (λ (b : Bool). Some (unwrap_or (if b then Some y else None) x)) (same-next (i == j) refl)
  where
    same-next : (b : Bool) → (i == j) ≡ b → (i == j) ≡ (suc i == suc j)
    same-next true e = e ∙ sym (eq-eqb (suc i) (suc j) (ap suc (eqb-true i j e)))
    same-next false e = e ∙ sym (ne_eqb (suc i) (suc j) (λ same. true≢false (sym (eq-eqb i j (omega (arith, same))) ∙ e)))

failed-holds : (s : PageState) (line word : ℕ) (situation : Situation) → takes_content situation ≡ false → Holds s line word → Holds (acted s situation) line word
failed-holds s line word situations.FileDirty none has = absurd (true≢false none)
failed-holds s line word situations.LockedFile none has = absurd (true≢false none)
failed-holds s line word situation none has = record { anon = has.anon; held = has.held }

after-holds : (layout : Layout) (page : Page) (s : PageState) (line word : ℕ) (what : What) → Allowed layout page s what → Holds s line word → Holds (after s what) line (unwrap_or (word_in line what) word)
after-holds layout page s line word (entries.Store slot at (Word mask stored)) allowed has = record { anon = has.anon; held = get-set s.val at line stored word has.held }
after-holds layout page s line word (entries.Store slot at (Sigbus thread)) allowed has = has
after-holds layout page s line word (entries.Fail situation required seen signals) allowed has =
    failed-holds s line word situation (ap takes_content allowed.actual ∙ not-taken s has.anon) has
after-holds layout page s line word what allowed has = record { anon = has.anon; held = has.held }

-- ---- a history

-- the word that an entry of a page stores on the line
abbrev pub stored_on : ℕ → Entry → Option ℕ
stored_on line e = word_in line e.what

load-reads : (layout : Layout) (page : Page) (s : PageState) (line word read : ℕ) (slot : VSlot) (mask : Mask) (what : What) → Holds s line word → Allowed layout page s what → what ≡ entries.Load slot line (Word mask read) → read ≡ word
load-reads layout page s line word read slot mask what has allowed is =
    let there : slice_index s.val line ≡ read = (subst (Allowed layout page s) is allowed).2 in
    sym there ∙ get_or_from_slice_get s.val line word 0 has.held

leads-read : (layout : Layout) (page : Page) (line : ℕ) (i : ℕ) (list : List Entry) (s t : PageState) (word read : ℕ) (e : Entry) (slot : VSlot) (mask : Mask)
    → Leads layout page s list t → Holds s line word → slice_get list i ≡ Some e → e.what ≡ entries.Load slot line (Word mask read) → read ≡ last_word word (filter_map (stored_on line) (take i list))
leads-read layout page line i [] s t word read e slot mask leads has there is = absurd (none-some e there)
leads-read layout page line zero (x ∷ xs) s t word read e slot mask leads has there is =
    load-reads layout page s line word read slot mask x.what has leads.0 (ap (λ (y : Entry). y.what) (same_Some x e there) ∙ is)
leads-read layout page line (suc i) (x ∷ xs) s t word read e slot mask leads has there is =
    leads-read layout page line i xs (after s x.what) t (unwrap_or (word_in line x.what) word) read e slot mask leads.1 (after-holds layout page s line word x.what leads.0 has) there is
    ∙ sym (last-cons word (word_in line x.what) (filter_map (stored_on line) (take i xs)))

opening-holds : (kind : PageKind) (locked : Bool) (line : ℕ) → kind ≡ Anon → line < line_limit → Holds (opening_of kind locked) line 0
opening-holds kind locked line anon within = subst (λ (k : PageKind). Holds (opening_of k locked) line 0) (sym anon) (record { anon = refl; held = first })
  where
    zeros : List ℕ
    zeros = replicate line_limit 0

    long : length zeros ≡ line_limit
    long = length-replicate {A = ℕ} line_limit 0

    first : slice_get zeros line ≡ Some 0
    first = slice_get-get_or zeros line 0 (omega (arith, within, long)) ∙ ap Some (get_or-replicate {A = ℕ} line_limit line 0 0 within)

-- a load of the page read what was stored last on its line, or 0
pub word-read : (layout : Layout) (page : Page) (list : List Entry) (state : PageState) → IsReplay layout page list state → slice_get layout.pages page.0 ≡ Some Anon → (line : ℕ) → line < line_limit → (i : ℕ) (e : Entry) (slot : VSlot) (mask : Mask) (read : ℕ)
    → slice_get list i ≡ Some e → e.what ≡ entries.Load slot line (Word mask read) → read ≡ last_word 0 (filter_map (stored_on line) (take i list))
word-read layout page list state replay anon line within i e slot mask read there is =
    leads-read layout page line i list (opening_of replay.kind (is_locked layout page)) state 0 read e slot mask replay.leads
    (opening-holds replay.kind (is_locked layout page) line (same_Some replay.kind Anon (sym replay.declared ∙ anon)) within) there is
