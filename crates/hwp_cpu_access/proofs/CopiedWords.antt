-- Of the stores on a line that a finished copy made the last one is of the word that was asked for, where it was asked for on that line, and
-- else of the word that the load of the line read.
use Rattle.std.proofs.Common.{◌≡◌, ◌≢◌, ◌⊎◌, inl, inr, ℕ, zero, suc, ◌+◌, ◌*◌, ◌<◌, ◌≤◌, ◌==◌, Bool, true, false, if◌then◌else◌, List, [], ◌∷◌, ◌++◌, Option, Some, None, length, take, get_or, slice_index, refl, sym, ap, ◌∙◌, arith}
use Rattle.std.proofs.lemmas.Bool.{both_ways, cases_eq, cases_lt, eq-eqb, ne_eqb}
use Rattle.std.proofs.lemmas.List.{get_or_past}
use Rattle.hwp_fault.specs.hwp_geom.declared.Layout.{Layout}
use Rattle.hwp_fault.specs.hwp_geom.declared.Page.{Page}
use Rattle.hwp_fault.specs.hwp_geom.declared.VSlot.{VSlot}
use Rattle.hwp_fault.specs.hwp_geom.declared.Who.{Who}
use Rattle.hwp_fault.specs.hwp_geom.Limits.{line_limit}
use Rattle.hwp_fault.specs.hwp_page.declared.Met.TheVariants.{Word}
use Rattle.hwp_fault.specs.hwp_page.declared.What.{What}
use Rattle.hwp_fault.specs.hwp_page.declared.What.TheVariants as entries
use Rattle.hwp_fault.specs.hwp_core_rule.declared.Made.{Made}
use Rattle.hwp_fault.specs.hwp_core_rule.declared.View.{View}
use Rattle.hwp_fault.specs.hwp_core_rule.Lists.{EachMember}
use Rattle.hwp_fault.specs.hwp_core_rule.Known.{IsOnTheWay, is_failure}
use Rattle.hwp_fault.specs.declared.Request.{Request}
use Rattle.hwp_fault.specs.Accesses.{what_of}
use Rattle.hwp_claim.specs.hwp_banks.Banks.{Banks}
use Rattle.hwp_claim.specs.Checks.{left_by}
use Rattle.hwp_fork.specs.declared.cow.Cow.{Cow}
use Rattle.hwp_fork.specs.declared.cow.Sub.{Sub}
use Rattle.hwp_fork.specs.declared.cow.Sub.TheVariants as subs
use Rattle.hwp_fork.specs.Subs as lists
use Rattle.hwp_fork.specs.Cows.{begin, sub_of, told_all, told_by}
use Rattle.hwp_fork.proofs.CopyOrder.{nth-sub}
use Rattle.hwp_fork.proofs.SubLaws.{length-subs}
use Rattle.hwp_cpu_access.specs.Copyings.{load_of, store_of}
use Rattle.hwp_cpu_access.specs.Runs.{AreRuns, IsAccessRun, IsBetween, IsFreeRun, IsRun, Run, made_by, words_of}

-- ---- the last store on a line

-- the later of two words, if there is one
abbrev later : Option ℕ → Option ℕ → Option ℕ
later None o = o
later (Some w) o = Some w

later-none : (o : Option ℕ) → later o None ≡ o
later-none None = refl
later-none (Some w) = refl

later-same : (o p q : Option ℕ) → later (later o p) q ≡ later o (later p q)
later-same None p q = refl
later-same (Some w) p q = refl

-- the word that the entry stored on the line
abbrev pub word_on : ℕ → What → Option ℕ
word_on line (entries.Store slot other (Word mask word)) = if other == line then Some word else None
word_on line _ = None

-- the word of the last of these entries that is a store on the line
abbrev pub last_stored : ℕ → List Made → Option ℕ
last_stored line [] = None
last_stored line (m ∷ ms) = later (last_stored line ms) (word_on line m.entry.what)

last-append : (k : ℕ) (a b : List Made) → last_stored k (a ++ b) ≡ later (last_stored k b) (last_stored k a)
last-append k [] b = sym (later-none (last_stored k b))
last-append k (m ∷ ms) b = ap (λ (o : Option ℕ). later o (word_on k m.entry.what)) (last-append k ms b) ∙ later-same (last_stored k b) (last_stored k ms) (word_on k m.entry.what)

-- ---- of an access

-- the word that it stores on the line
abbrev sub_word : ℕ → Sub → Option ℕ
sub_word k (subs.Store slot line word) = if line == k then Some word else None
sub_word k _ = None

-- an entry that is made on the way is no store
not-stored : (k : ℕ) (a : Request) (m : Made) → IsBetween a m → word_on k m.entry.what ≡ None
not-stored k a m (inr soft) = ap (word_on k) soft
not-stored k a m (inl (inl (page, way))) = which m.entry.what way
  where
    which : (w : What) → IsOnTheWay a.slot a.line w → word_on k w ≡ None
    which (entries.Store slot line met) on = absurd on
    which _ on = refl
not-stored k a m (inl (inr failure)) = which m.entry.what failure
  where
    which : (w : What) → is_failure w ≡ true → word_on k w ≡ None
    which (entries.Store slot line met) is = absurd (both_ways false refl is)
    which _ is = refl

none-stored : (k : ℕ) (a : Request) (l : List Made) → EachMember (IsBetween a) l → last_stored k l ≡ None
none-stored k a [] each = refl
none-stored k a (m ∷ ms) each = ap (λ (o : Option ℕ). later o (word_on k m.entry.what)) (none-stored k a ms (λ i x there. each (suc i) x there)) ∙ not-stored k a m (each 0 m refl)

access-stored : (k : ℕ) {layout : Layout} {view : View} (a : Request) {banks : Banks} (r : Run) (run : IsAccessRun layout view a banks r) → last_stored k r.made ≡ word_on k (what_of a run.mask r.word)
access-stored k a r run = ap (last_stored k) run.made_is ∙ last-append k run.before (run.last ∷ []) ∙ ap (later (word_on k run.last.entry.what)) (none-stored k a run.before run.such) ∙ later-none (word_on k run.last.entry.what) ∙ ap (word_on k) run.answers.2

free-stored : (k : ℕ) {layout : Layout} {view : View} {who : Who} {page : Page} {slot : VSlot} (r : Run) → IsFreeRun layout view who page slot r → last_stored k r.made ≡ None
free-stored k {layout} {view} {who} {page} {slot} r run = which run.made_is
  where
    which : (r.made ≡ []) ⊎ ((m : Made) × (r.made ≡ m ∷ []) × (m.page ≡ page) × (m.entry.what ≡ entries.Free slot)) → last_stored k r.made ≡ None
    which (inl none) = ap (last_stored k) none
    which (inr (m, one, own, what)) = ap (last_stored k) one ∙ ap (word_on k) what

run-stored : (k : ℕ) (layout : Layout) (view : View) (store : Request) (page : Page) (banks : Banks) (r : Run) (sub : Sub) → IsRun layout view store page banks r sub → last_stored k r.made ≡ sub_word k sub
run-stored k layout view store page banks r (subs.Load slot line) run = access-stored k (load_of store page slot line) r run
run-stored k layout view store page banks r (subs.Store slot line word) run = access-stored k (store_of store slot line word) r run
run-stored k layout view store page banks r (subs.Free slot) run = free-stored k r run
run-stored k layout view store page banks r subs.Switched run = absurd run

-- ---- of all accesses

abbrev last_sub : ℕ → List Sub → Option ℕ
last_sub k [] = None
last_sub k (s ∷ ss) = later (last_sub k ss) (sub_word k s)

-- those that came, one for each word that was told
abbrev subs_by : Cow → List ℕ → List Sub
subs_by cow [] = []
subs_by cow (w ∷ ws) = sub_of cow ∷ subs_by (told_by cow w) ws

runs-stored : (k : ℕ) (layout : Layout) (view : View) (store : Request) (page : Page) (cow : Cow) (banks : Banks) (runs : List Run) → AreRuns layout view store page cow banks runs → last_stored k (made_by runs) ≡ last_sub k (subs_by cow (words_of runs))
runs-stored k layout view store page cow banks [] are = refl
runs-stored k layout view store page cow banks (r ∷ rs) are =
    last-append k r.made (made_by rs)
    ∙ ap (λ (o : Option ℕ). later o (last_stored k r.made)) (runs-stored k layout view store page (told_by cow r.word) (left_by banks r.checks) rs are.1)
    ∙ ap (later (last_sub k (subs_by (told_by cow r.word) (words_of rs)))) (run-stored k layout view store page banks r (sub_of cow) are.0)

nth-by : (cow : Cow) (ws : List ℕ) (n : ℕ) → n < length ws → get_or (subs_by cow ws) n subs.Switched ≡ sub_of (told_all cow (take n ws))
nth-by cow [] n within = absurd (omega (arith, within))
nth-by cow (w ∷ ws) zero within = refl
nth-by cow (w ∷ ws) (suc n) within = nth-by (told_by cow w) ws n (omega (arith, within))

length-by : (cow : Cow) (ws : List ℕ) → length (subs_by cow ws) ≡ length ws
length-by cow [] = refl
length-by cow (w ∷ ws) = ap suc (length-by (told_by cow w) ws)

-- lists that differ only by switches at their ends have the same last store
same-last : (k : ℕ) (a b : List Sub) → ((n : ℕ) → get_or a n subs.Switched ≡ get_or b n subs.Switched) → last_sub k a ≡ last_sub k b
same-last k [] [] same = refl
same-last k [] (y ∷ ys) same = ap (λ (o : Option ℕ). later o (sub_word k subs.Switched)) (same-last k [] ys (λ n. same (suc n))) ∙ ap (λ (s : Sub). later (last_sub k ys) (sub_word k s)) (same 0)
same-last k (x ∷ xs) [] same = ap (λ (s : Sub). later (last_sub k xs) (sub_word k s)) (same 0) ∙ ap (λ (o : Option ℕ). later o (sub_word k subs.Switched)) (same-last k xs [] (λ n. same (suc n)))
same-last k (x ∷ xs) (y ∷ ys) same = ap (λ (o : Option ℕ). later o (sub_word k x)) (same-last k xs ys (λ n. same (suc n))) ∙ ap (λ (s : Sub). later (last_sub k ys) (sub_word k s)) (same 0)

-- ---- of the whole list

last-sub-append : (k : ℕ) (a b : List Sub) → last_sub k (a ++ b) ≡ later (last_sub k b) (last_sub k a)
last-sub-append k [] b = sym (later-none (last_sub k b))
last-sub-append k (s ∷ ss) b = ap (λ (o : Option ℕ). later o (sub_word k s)) (last-sub-append k ss b) ∙ later-same (last_sub k b) (last_sub k ss) (sub_word k s)

-- no line from `from` on is k
copies-none : (k : ℕ) (v w : VSlot) (told : List ℕ) (from n : ℕ) → k < from → last_sub k (lists.copies v w told from n) ≡ None
copies-none k v w told from zero past = refl
copies-none k v w told from (suc n) past =
    ap (λ (o : Option ℕ). later (later o (if from == k then Some (slice_index told (2 * from)) else None)) None) (copies-none k v w told (from + 1) n (omega (arith, past)))
    ∙ ap (λ (b : Bool). later (if b then Some (slice_index told (2 * from)) else None) None) (ne_eqb from k (λ is. omega (arith, past, is)))

copies-last : (k : ℕ) (v w : VSlot) (told : List ℕ) (from n : ℕ) → from ≤ k → k < from + n → last_sub k (lists.copies v w told from n) ≡ Some (slice_index told (2 * k))
copies-last k v w told from zero low high = absurd (omega (arith, low, high))
copies-last k v w told from (suc n) low high = which (cases_eq from k) (λ other. copies-last k v w told (from + 1) n (omega (arith, low, other)) (omega (arith, high)))
  where
    which : (from ≡ k) ⊎ (from ≢ k) → (from ≢ k → last_sub k (lists.copies v w told (from + 1) n) ≡ Some (slice_index told (2 * k))) → last_sub k (lists.copies v w told from (suc n)) ≡ Some (slice_index told (2 * k))
    which (inl is) rest =
        ap (λ (o : Option ℕ). later (later o (if from == k then Some (slice_index told (2 * from)) else None)) None) (copies-none k v w told (from + 1) n (omega (arith, is)))
        ∙ ap (λ (b : Bool). later (if b then Some (slice_index told (2 * from)) else None) None) (eq-eqb from k is)
        ∙ ap (λ (i : ℕ). Some (slice_index told (2 * i))) is
    which (inr other) rest = ap (λ (o : Option ℕ). later (later o (if from == k then Some (slice_index told (2 * from)) else None)) None) (rest other)

abbrev word_at : ℕ → ℕ → ℕ → List ℕ → ℕ
word_at k line x told = if line == k then x else slice_index told (2 * k)

list-last : (k : ℕ) (v w : VSlot) (line x : ℕ) (told : List ℕ) → k < line_limit → last_sub k (lists.subs v w line x told) ≡ Some (word_at k line x told)
list-last k v w line x told within =
    last-sub-append k (lists.copies v w told 0 line_limit) (subs.Store w line x ∷ subs.Free v ∷ [])
    ∙ ap (later (if line == k then Some x else None)) (copies-last k v w told 0 line_limit (omega arith) (omega (arith, within)))
    ∙ which (line == k)
  where
    which : (b : Bool) → later (if b then Some x else None) (Some (slice_index told (2 * k))) ≡ Some (if b then x else slice_index told (2 * k))
    which true = refl
    which false = refl

-- a copy that has switched: whatever it was told of the load of a line was stored last there, but on the line of the store that was asked for
pub copied-words : (k : ℕ) (layout : Layout) (view : View) (store : Request) (page : Page) (v w : VSlot) (line x : ℕ) (banks : Banks) (runs : List Run) → k < line_limit → 2 * line_limit + 2 ≤ length (words_of runs)
    → AreRuns layout view store page (begin v w line x) banks runs → last_stored k (made_by runs) ≡ Some (word_at k line x (words_of runs))
copied-words k layout view store page v w line x banks runs within all are =
    runs-stored k layout view store page (begin v w line x) banks runs are
    ∙ same-last k (subs_by (begin v w line x) told) (lists.subs v w line x told) same
    ∙ list-last k v w line x told within
  where
    told : List ℕ
    told = words_of runs

    past : (n : ℕ) → length told ≤ n → get_or (subs_by (begin v w line x) told) n subs.Switched ≡ get_or (lists.subs v w line x told) n subs.Switched
    past n over = get_or_past (subs_by (begin v w line x) told) n subs.Switched (omega (arith, over, length-by (begin v w line x) told)) ∙ sym (get_or_past (lists.subs v w line x told) n subs.Switched (omega (arith, over, all, length-subs v w line x told)))

    same : (n : ℕ) → get_or (subs_by (begin v w line x) told) n subs.Switched ≡ get_or (lists.subs v w line x told) n subs.Switched
    same n = elim (cases_lt n (length told)) [
      | inl before ↦ nth-by (begin v w line x) told n before ∙ nth-sub v w line x told n (omega (arith, before))
      | inr over ↦ past n over
    ]
