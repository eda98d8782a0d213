-- The walk over a page's history.
use Rattle.std.proofs.Common.{◌≡◌, ℕ, ◌+◌, ◌<◌, ◌≤◌, ◌⊎◌, inl, inr, List, [], ◌∷◌, ◌++◌, Some, length, get_or, set, replicate, add-zero, Option, None, IsSomeAnd, take, sum_by, slice_get, refl, sym, ap, ◌∙◌, subst, arith}
use Rattle.std.proofs.lemmas.Bool.{cases_eq, cases_lt}
use Rattle.std.proofs.lemmas.List.{take_more, get_or-set_same, get_or-set_other, get_or_past, get_or-replicate, length-replicate, length-set, take_all}
use Rattle.std.proofs.lemmas.List.Sums.{sum_by_more, sum_by_more_le}
use Rattle.std.proofs.lemmas.Option.{get_or_from_slice_get, same_Some, slice_get_within}
use Rattle.hwp_check_rules.specs.hwp_geom.Layout.{is_locked, IsSound}
use Rattle.hwp_check_rules.specs.hwp_geom.declared.Cpu.{Cpu}
use Rattle.hwp_check_rules.specs.hwp_geom.declared.Layout.{Layout}
use Rattle.hwp_check_rules.specs.hwp_geom.declared.Page.{Page}
use Rattle.hwp_check_rules.specs.hwp_geom.declared.PageKind.{PageKind}
use Rattle.hwp_check_rules.specs.hwp_geom.declared.TransDecl.{TransDecl}
use Rattle.hwp_check_rules.specs.hwp_geom.Limits.{translation_limit}
use Rattle.hwp_check_rules.specs.hwp_page.Step.{Allowed, MapsWithin, after, opening_of}
use Rattle.hwp_check_rules.specs.hwp_page.declared.Entry.{Entry}
use Rattle.hwp_check_rules.specs.hwp_page.declared.PageState.{PageState}
use Rattle.hwp_check_rules.specs.hwp_page.declared.What.{What}
use Rattle.hwp_check_rules.specs.hwp_page.declared.What.TheVariants as entries
use Rattle.hwp_check_rules.proofs.of_hwp_page.Histories.{IsReplay-more}
use Rattle.hwp_check_rules.specs.hwp_script_words.declared.Script.{Script}
use Rattle.hwp_check_state.specs.Histories.{FirstFit, IsBehindIn, IsRightEntry, IsWrongAt, IsWrongEntry, PageFits}
use Rattle.hwp_check_rules.specs.Standing.{entry_height}
use Rattle.hwp_check_rules.specs.hwp_geom.declared.VSlot.{VSlot}
use Rattle.hwp_check_rules.specs.hwp_geom.declared.Who.{Who}

-- an entry of the processor, of this command, among so many first ones
pub record HasEntry (entries : List Entry) (n cpu seq : ℕ) : Type 0 where
  pub number : ℕ
  pub entry : Entry
  pub before : number < n
  pub there : slice_get entries number ≡ Some entry
  pub of_cpu : entry.who.cpu.0 ≡ cpu
  pub of_seq : entry.who.seq ≡ seq

-- the last command numbers of so many first entries, processor by processor; 0 where there is none
pub record AreLasts (entries : List Entry) (n : ℕ) (lasts : List ℕ) : Type 0 where
  pub above : (i : ℕ) (e : Entry) → i < n → slice_get entries i ≡ Some e → e.who.seq ≤ get_or lasts e.who.cpu.0 0
  pub stand : (cpu : ℕ) → (get_or lasts cpu 0 ≡ 0) ⊎ HasEntry entries n cpu (get_or lasts cpu 0)

-- where the walk has come to
pub record Walked (script : Script) (copies : Who → Option VSlot) (page : Page) (entries : List Entry) (heading n : ℕ) (state : PageState) (lasts : List ℕ) (line : ℕ) : Type 0 where
  pub fits : FirstFit script copies page entries n state
  pub size : length lasts ≡ 256
  pub lasts_are : AreLasts entries n lasts
  pub line_is : line ≡ heading + 1 + sum_by entry_height (take n entries)

take-next : {A : Type 0} (xs : List A) (n : ℕ) (x : A) → slice_get xs n ≡ Some x → take (n + 1) xs ≡ take n xs ++ x ∷ []
take-next xs n x there = take_more xs n x (slice_get_within xs n x there) ∙ ap (λ y. take n xs ++ y ∷ []) (get_or_from_slice_get xs n x x there)

sum-next : (entries : List Entry) (n : ℕ) (e : Entry) → slice_get entries n ≡ Some e
    → sum_by entry_height (take (n + 1) entries) ≡ sum_by entry_height (take n entries) + entry_height e
sum-next entries n e there =
    sum_by_more entry_height entries n e (slice_get_within entries n e there)
    ∙ ap (λ y. sum_by entry_height (take n entries) + entry_height y) (get_or_from_slice_get entries n e e there)

-- one entry more: the last one is a new one, or it stood before
below-next : (n i : ℕ) → i < n + 1 → (i < n) ⊎ (i ≡ n)
below-next n i within = elim (cases_lt i n) [
  | inl low ↦ inl low
  | inr high ↦ inr (omega arith)
]

last-one : (entries : List Entry) (n i : ℕ) (e f : Entry) → i ≡ n → slice_get entries n ≡ Some e → slice_get entries i ≡ Some f → f ≡ e
last-one entries n i e f same there other = same_Some _ _ (sym other ∙ ap (slice_get entries) same ∙ there)

fits-next : {copies : Who → Option VSlot} (script : Script) (page : Page) (entries : List Entry) (n : ℕ) (state : PageState) (e : Entry) (lasts : List ℕ) (last : ℕ)
    → FirstFit script copies page entries n state → AreLasts entries n lasts → slice_get entries n ≡ Some e → last ≡ get_or lasts e.who.cpu.0 0 → IsRightEntry script copies page state last e
    → FirstFit script copies page entries (n + 1) (after state e.what)
fits-next script page entries n state e lasts last fits are there is right = record {
  replay = rw (take-next entries n e there) (IsReplay-more e fits.replay right.allowed);
  made = λ i f within other. elim (below-next n i within) [
    | inl low ↦ fits.made i f low other
    | inr same ↦ rw (last-one entries n i e f same there other) right.made
  ];
  ordered = λ i j f g before within one other same_cpu. elim (below-next n j within) [
    | inl low ↦ fits.ordered i j f g before low one other same_cpu
    | inr same ↦
        let last_is : g ≡ e = last-one entries n j e g same there other in
        let low : i < n = omega arith in
        let most : f.who.seq ≤ get_or lasts f.who.cpu.0 0 = are.above i f low one in
        let cpu_is : f.who.cpu ≡ e.who.cpu = same_cpu ∙ ap (λ (x : Entry). x.who.cpu) last_is in
        let number : f.who.cpu.0 ≡ e.who.cpu.0 = ap (λ (c : Cpu). c.0) cpu_is in
        let known : get_or lasts f.who.cpu.0 0 ≡ get_or lasts e.who.cpu.0 0 = ap (λ k. get_or lasts k 0) number in
        let seq_is : g.who.seq ≡ e.who.seq = ap (λ (x : Entry). x.who.seq) last_is in
        let rises : last ≤ e.who.seq = right.rises in
        omega (arith, is)
  ];
}

entry-later : (entries : List Entry) (n cpu seq : ℕ) → HasEntry entries n cpu seq → HasEntry entries (n + 1) cpu seq
entry-later entries n cpu seq has = record {
  number = has.number;
  entry = has.entry;
  before = let b : has.number < n = has.before in omega arith;
  there = has.there;
  of_cpu = has.of_cpu;
  of_seq = has.of_seq;
}

lasts-next : (entries : List Entry) (n : ℕ) (e : Entry) (lasts : List ℕ)
    → AreLasts entries n lasts → slice_get entries n ≡ Some e → get_or lasts e.who.cpu.0 0 ≤ e.who.seq → e.who.cpu.0 < length lasts
    → AreLasts entries (n + 1) (set lasts e.who.cpu.0 e.who.seq)
lasts-next entries n e lasts are there rises inside =
    let own : get_or (set lasts e.who.cpu.0 e.who.seq) e.who.cpu.0 0 ≡ e.who.seq = get_or-set_same lasts e.who.cpu.0 e.who.seq 0 inside in
    record {
      above = λ i f within other. elim (below-next n i within) [
        | inl low ↦
            let most : f.who.seq ≤ get_or lasts f.who.cpu.0 0 = are.above i f low other in
            elim (cases_eq f.who.cpu.0 e.who.cpu.0) [
              | inl same ↦
                  let old : get_or lasts f.who.cpu.0 0 ≡ get_or lasts e.who.cpu.0 0 = ap (λ k. get_or lasts k 0) same in
                  let new : get_or (set lasts e.who.cpu.0 e.who.seq) f.who.cpu.0 0 ≡ get_or (set lasts e.who.cpu.0 e.who.seq) e.who.cpu.0 0 = ap (λ k. get_or (set lasts e.who.cpu.0 e.who.seq) k 0) same in
                  omega arith
              | inr differs ↦ rw (get_or-set_other lasts e.who.cpu.0 f.who.cpu.0 e.who.seq 0 differs) most
            ]
        | inr same ↦ rw (last-one entries n i e f same there other) (let o = own in omega arith)
      ];
      stand = λ cpu. elim (cases_eq cpu e.who.cpu.0) [
        | inl same ↦ inr (rw same (rw own (record { number = n; entry = e; before = omega arith; there = there; of_cpu = refl; of_seq = refl })))
        | inr differs ↦ rw (get_or-set_other lasts e.who.cpu.0 cpu e.who.seq 0 differs) (elim (are.stand cpu) [
          | inl none ↦ inl none
          | inr has ↦ inr (entry-later entries n cpu (get_or lasts cpu 0) has)
        ])
      ];
    }

-- the walk goes on behind an entry that is right
pub walked-next : {copies : Who → Option VSlot} {script : Script} {page : Page} {entries : List Entry} {heading n : ℕ} {state : PageState} {lasts : List ℕ} {line : ℕ}
    → (e : Entry) (last : ℕ) → Walked script copies page entries heading n state lasts line → slice_get entries n ≡ Some e → last ≡ get_or lasts e.who.cpu.0 0
    → e.who.cpu.0 < 256 → IsRightEntry script copies page state last e
    → Walked script copies page entries heading (n + 1) (after state e.what) (set lasts e.who.cpu.0 e.who.seq) (line + entry_height e)
walked-next {script = script} {page = page} {entries = entries} {heading = heading} {n = n} {state = state} {lasts = lasts} {line = line} e last walked there is inside right =
    let rises : get_or lasts e.who.cpu.0 0 ≤ e.who.seq = subst (λ k. k ≤ e.who.seq) is right.rises in
    let within : e.who.cpu.0 < length lasts = let s : length lasts ≡ 256 = walked.size in omega arith in
    record {
      fits = fits-next script page entries n state e lasts last walked.fits walked.lasts_are there is right;
      size = length-set lasts e.who.cpu.0 e.who.seq ∙ walked.size;
      lasts_are = lasts-next entries n e lasts walked.lasts_are there rises within;
      line_is =
          let l : line ≡ heading + 1 + sum_by entry_height (take n entries) = walked.line_is in
          let s : sum_by entry_height (take (n + 1) entries) ≡ sum_by entry_height (take n entries) + entry_height e = sum-next entries n e there in
          omega arith;
    }

same_cpu : (a b : Cpu) → a.0 ≡ b.0 → a ≡ b
same_cpu a b same = ap (λ k. record { 0 = k }) same

behind : (entries : List Entry) (n : ℕ) (e : Entry) (lasts : List ℕ) → AreLasts entries n lasts → e.who.seq < get_or lasts e.who.cpu.0 0 → IsBehindIn entries n e
behind entries n e lasts are falls = elim (are.stand e.who.cpu.0) [
  | inl none ↦ absurd (omega (arith, falls, none))
  | inr has ↦ record {
    earlier = has.number;
    other = has.entry;
    there = has.there;
    before = has.before;
    same_cpu = same_cpu has.entry.who.cpu e.who.cpu has.of_cpu;
    falls = subst (λ k. e.who.seq < k) (sym has.of_seq) falls;
  }
]

-- it stops at an entry that is wrong
pub walked-wrong : {copies : Who → Option VSlot} {script : Script} {page : Page} {entries : List Entry} {heading n : ℕ} {state : PageState} {lasts : List ℕ} {line : ℕ}
    → (e : Entry) (last : ℕ) → Walked script copies page entries heading n state lasts line → slice_get entries n ≡ Some e → last ≡ get_or lasts e.who.cpu.0 0
    → IsWrongEntry script copies page state last e → IsWrongAt script copies page entries heading line
walked-wrong {script = script} {page = page} {entries = entries} {heading = heading} {n = n} {state = state} {lasts = lasts} {line = line} e last walked there is wrong = (
  n,
  record {
    entry = e;
    state = state;
    there = there;
    before = walked.fits;
    wrong = elim wrong [
      | inl barred ↦ inl barred
      | inr rest ↦ elim rest [
        | inl unmade ↦ inr (inl unmade)
        | inr falls ↦ inr (inr (behind entries n e lasts walked.lasts_are (subst (λ k. e.who.seq < k) is falls)))
      ]
    ];
  },
  walked.line_is,
)

abbrev zeros : ℕ → List ℕ
zeros n = replicate n 0

at-zeros : (n i : ℕ) → get_or (zeros n) i 0 ≡ 0
at-zeros n i = elim (cases_lt i n) [
  | inl low ↦ get_or-replicate {A = ℕ} n i 0 0 low
  | inr high ↦ get_or_past (zeros n) i 0 (let l : length (zeros n) ≡ n = length-replicate {A = ℕ} n 0 in omega arith)
]

none-below : {A : Type 0} (i : ℕ) → i < 0 → A
none-below i low = absurd (omega (arith, low))

-- it begins at the page's opening
pub walked-start : {copies : Who → Option VSlot} (script : Script) (page : Page) (entries : List Entry) (heading : ℕ) (kind : PageKind) (state : PageState)
    → slice_get script.layout.pages page.0 ≡ Some kind → state ≡ opening_of kind (is_locked script.layout page) → Walked script copies page entries heading 0 state (replicate 256 0) (heading + 1)
walked-start script page entries heading kind state declared opening = record {
  fits = record {
    replay = record { kind = kind; declared = declared; leads = sym opening };
    made = λ i e low there. none-below i low;
    ordered = λ i j e f before low one other same. none-below j low;
  };
  size = length-replicate {A = ℕ} 256 0;
  lasts_are = record {
    above = λ i e low there. none-below i low;
    stand = λ cpu. inl (at-zeros 256 cpu);
  };
  line_is = sym (add-zero (heading + 1));
}

-- at the end the whole page fits
pub walked-end : {copies : Who → Option VSlot} {script : Script} {page : Page} {entries : List Entry} {heading n : ℕ} {state : PageState} {lasts : List ℕ} {line : ℕ}
    → Walked script copies page entries heading n state lasts line → n ≡ length entries
    → PageFits script copies page entries × (line ≡ heading + 1 + sum_by entry_height entries)
walked-end {copies = copies} {script = script} {page = page} {entries = entries} {heading = heading} {n = n} {state = state} {lasts = lasts} {line = line} walked end =
    let fits : FirstFit script copies page entries (length entries) state = subst (λ k. FirstFit script copies page entries k state) end walked.fits in
    let whole : take n entries ≡ entries = ap (λ k. take k entries) end ∙ take_all (length entries) entries (omega arith) in
    ((state, fits), walked.line_is ∙ ap (λ es. heading + 1 + sum_by entry_height es) whole)

some-there : {A : Type 0} (o : Option A) (P : A → Type 0) → IsSomeAnd o P → (x : A) × (o ≡ Some x)
some-there None P holds = absurd holds
some-there (Some x) P holds = (x, refl)

-- a translation that comes into use is declared
pub maps-within : (layout : Layout) (page : Page) (state : PageState) (what : What) → IsSound layout → Allowed layout page state what → MapsWithin what
maps-within layout page state (entries.Map slot) sound allowed =
    let found = some-there (slice_get layout.trans slot.0) (λ (t : TransDecl). t.page ≡ page) allowed.1 in
    let within : slot.0 < length layout.trans = slice_get_within layout.trans slot.0 found.0 found.1 in
    let few : length layout.trans ≤ translation_limit = sound.trans in
    omega arith
maps-within layout page state (entries.Load slot line met) sound allowed = record {}
maps-within layout page state (entries.Store slot line met) sound allowed = record {}
maps-within layout page state entries.FaultIn sound allowed = record {}
maps-within layout page state (entries.Free slot) sound allowed = record {}
maps-within layout page state entries.Drop sound allowed = record {}
maps-within layout page state entries.Sync sound allowed = record {}
maps-within layout page state entries.Out sound allowed = record {}
maps-within layout page state (entries.Mce slot line mask) sound allowed = record {}
maps-within layout page state (entries.Fail situation required seen signals) sound allowed = record {}
maps-within layout page state entries.Soft sound allowed = record {}

-- the line behind an entry is within the page's
pub walked-room : {copies : Who → Option VSlot} {script : Script} {page : Page} {entries : List Entry} {heading n : ℕ} {state : PageState} {lasts : List ℕ} {line : ℕ}
    → (e : Entry) → Walked script copies page entries heading n state lasts line → slice_get entries n ≡ Some e
    → line + entry_height e ≤ heading + 1 + sum_by entry_height entries
walked-room {entries = entries} {heading = heading} {n = n} {line = line} e walked there =
    let l : line ≡ heading + 1 + sum_by entry_height (take n entries) = walked.line_is in
    let more : sum_by entry_height (take n entries) + entry_height (get_or entries n e) ≤ sum_by entry_height entries = sum_by_more_le entry_height entries n e (slice_get_within entries n e there) in
    let same : entry_height (get_or entries n e) ≡ entry_height e = ap entry_height (get_or_from_slice_get entries n e e there) in
    omega arith
