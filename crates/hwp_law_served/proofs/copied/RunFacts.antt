-- What holds of each entry of a copy: of those that its accesses make on their way, of those that answer them, and of the freeing.
use Rattle.std.proofs.Common.{◌≡◌, ◌⊎◌, inl, inr, ℕ, List, [], ◌∷◌, ◌++◌, Option, Some, None, refl, sym, ap, ◌∙◌, subst}
use Rattle.std.proofs.lemmas.Option.{none-some, same_Some}
use Rattle.hwp_law.specs.hwp_geom.declared.Layout.{Layout}
use Rattle.hwp_law.specs.hwp_geom.declared.Page.{Page}
use Rattle.hwp_law.specs.hwp_geom.declared.VSlot.{VSlot}
use Rattle.hwp_law.specs.hwp_banks.Banks.{Banks}
use Rattle.hwp_law.specs.hwp_page.declared.Met.TheVariants.{Word}
use Rattle.hwp_law.specs.hwp_page.declared.What.TheVariants as entries
use Rattle.hwp_plain.specs.hwp_core_rule.declared.Made.{Made}
use Rattle.hwp_plain.specs.hwp_core_rule.declared.View.{View}
use Rattle.hwp_plain.specs.hwp_core_rule.Lists.{EachMember}
use Rattle.hwp_plain.proofs.of_hwp_core_rule.Lists.{each-push}
use Rattle.hwp_plain.proofs.of_hwp_core_rule.MoreEntries.{each-append}
use Rattle.hwp_plain.specs.hwp_core_rule.Known.{IsAt}
use Rattle.hwp_cpu_row.specs.hwp_claim.Checks.{left_by}
use Rattle.hwp_cpu_access.specs.hwp_fault.declared.Request.{Request}
use Rattle.hwp_cpu_access.specs.hwp_fault.Accesses.{what_of}
use Rattle.hwp_cpu_access.specs.hwp_fork.declared.cow.Cow.{Cow}
use Rattle.hwp_cpu_access.specs.hwp_fork.declared.cow.CowAt.{CowAt}
use Rattle.hwp_cpu_access.specs.hwp_fork.declared.cow.CowAt.TheVariants as at
use Rattle.hwp_cpu_access.specs.hwp_fork.Cows as cows
use Rattle.hwp_cpu_access.specs.Copyings.{load_of, request_by, store_of}
use Rattle.hwp_cpu_access.specs.Runs.{AreRuns, IsAccessRun, IsBetween, IsFreeRun, IsRun, Run, made_by, words_of}
use Rattle.hwp_law_served.specs.Copied.{sub_next}

-- ---- whose the accesses are

-- of a copy with these told: the same translations, line and word
pub record IsSameCopy (c d : Cow) : Type 0 where
  pub v : d.v ≡ c.v
  pub w : d.w ≡ c.w
  pub line : d.line ≡ c.line
  pub x : d.x ≡ c.x

pub same-copy : (c : Cow) (told : List ℕ) → IsSameCopy c (cows.told_all c told)
same-copy c [] = record { v = refl; w = refl; line = refl; x = refl }
same-copy c (w ∷ ws) = let rest = same-copy (cows.told_by c w) ws in record { v = rest.v; w = rest.w; line = rest.line; x = rest.x }

-- an access of the copy loads a line of the page through `from`, or stores a word on a line through the twin
abbrev pub IsOwnAccess : Request → Page → VSlot → Request → Type 0
IsOwnAccess store page from a = ((line : ℕ) × (a ≡ load_of store page from line)) ⊎ ((line : ℕ) × (word : ℕ) × (a ≡ store_of store store.slot line word))

access-at : (store : Request) (page : Page) (c : Cow) (x : CowAt) (a : Request) → c.w ≡ store.slot → request_by store page (cows.sub_at c x) ≡ Some a → IsOwnAccess store page c.v a
access-at store page c (at.Load line) a twin is = inl (line, sym (same_Some (load_of store page c.v line) a is))
access-at store page c (at.Store line word) a twin is = inr (line, word, sym (same_Some (store_of store c.w line word) a is) ∙ ap (λ (s : VSlot). store_of store s line word) twin)
access-at store page c at.Last a twin is = inr (c.line, c.x, sym (same_Some (store_of store c.w c.line c.x) a is) ∙ ap (λ (s : VSlot). store_of store s c.line c.x) twin)
access-at store page c at.Free a twin is = absurd (none-some a is)
access-at store page c at.Switched a twin is = absurd (none-some a is)

-- also the one that comes
pub next-own : (store : Request) (page : Page) (from : VSlot) (word : ℕ) (runs : List Run) (a : Request) → request_by store page (sub_next store from word runs) ≡ Some a → IsOwnAccess store page from a
next-own store page from word runs a is =
    let cow : Cow = cows.told_all (cows.begin from store.slot store.line word) (words_of runs) in
    let same = same-copy (cows.begin from store.slot store.line word) (words_of runs) in
    subst (λ (v : VSlot). IsOwnAccess store page v a) same.v (access-at store page cow cow.at a same.w is)

-- ---- their entries

-- what is so of each kind of them
pub record IsSoOf (P : Made → Type 0) (store : Request) (page : Page) (from : VSlot) : Type 0 where
  pub loading : (line : ℕ) (m : Made) → IsBetween (load_of store page from line) m → P m
  pub loaded : (line mask word place : ℕ) (m : Made) → IsAt page place (entries.Load from line (Word (record { 0 = mask }) word)) m → P m
  pub storing : (line word : ℕ) (m : Made) → IsBetween (store_of store store.slot line word) m → P m
  pub stored : (line mask word place : ℕ) (m : Made) → IsAt store.page place (entries.Store store.slot line (Word (record { 0 = mask }) word)) m → P m
  pub freed : (m : Made) → m.page ≡ page → m.entry.what ≡ entries.Free from → P m

module _ (P : Made → Type 0) (layout : Layout) (view : View) (store : Request) (page : Page) where
  of-access : (a : Request) (banks : Banks) (r : Run) → ((m : Made) → IsBetween a m → P m) → ((mask : ℕ) (m : Made) → IsAt a.page r.place.entry (what_of a mask r.word) m → P m) → IsAccessRun layout view a banks r → EachMember P r.made
  of-access a banks r way last run = subst (EachMember P) (sym run.made_is) (each-push P run.before run.last (last run.mask run.last run.answers) (λ i m there. way m (run.such i m there)))

  of-free : (slot : VSlot) (r : Run) → ((m : Made) → m.page ≡ page → m.entry.what ≡ entries.Free slot → P m) → IsFreeRun layout view store.who page slot r → EachMember P r.made
  of-free slot r free run = which run.made_is
    where
      which : (r.made ≡ []) ⊎ ((m : Made) × (r.made ≡ m ∷ []) × (m.page ≡ page) × (m.entry.what ≡ entries.Free slot)) → EachMember P r.made
      which (inl none) = subst (EachMember P) (sym none) (λ i m there. absurd (none-some m there))
      which (inr (m, one, own, what)) = subst (EachMember P) (sym one) (each-push P [] m (free m own what) (λ i n there. absurd (none-some n there)))

  of-run : (c : Cow) (banks : Banks) (r : Run) → c.w ≡ store.slot → IsSoOf P store page c.v → IsRun layout view store page banks r (cows.sub_of c) → EachMember P r.made
  of-run c banks r twin holds run = which c.at run
    where
      store-run : (line word : ℕ) → IsAccessRun layout view (store_of store c.w line word) banks r → EachMember P r.made
      store-run line word is =
          let own : IsAccessRun layout view (store_of store store.slot line word) banks r = subst (λ (s : VSlot). IsAccessRun layout view (store_of store s line word) banks r) twin is in
          of-access (store_of store store.slot line word) banks r (holds.storing line word) (λ mask m stands. holds.stored line mask word r.place.entry m stands) own

      which : (x : CowAt) → IsRun layout view store page banks r (cows.sub_at c x) → EachMember P r.made
      which (at.Load line) is = of-access (load_of store page c.v line) banks r (holds.loading line) (λ mask m stands. holds.loaded line mask r.word r.place.entry m stands) is
      which (at.Store line word) is = store-run line word is
      which at.Last is = store-run c.line c.x is
      which at.Free is = of-free c.v r holds.freed is
      which at.Switched is = absurd is

  pub of-runs : (c : Cow) (banks : Banks) (runs : List Run) → c.w ≡ store.slot → IsSoOf P store page c.v → AreRuns layout view store page c banks runs → EachMember P (made_by runs)
  of-runs c banks [] twin holds are = λ i m there. absurd (none-some m there)
  of-runs c banks (r ∷ rs) twin holds are = each-append P r.made (made_by rs) (of-run c banks r twin holds are.0) (of-runs (cows.told_by c r.word) (left_by banks r.checks) rs twin holds are.1)

-- ---- what stands between the entries that answer

-- of an access of the copy, where it is so of loads and of stores
pub of-own : (P : Made → Type 0) (store : Request) (page : Page) (from : VSlot) (holds : IsSoOf P store page from) (a : Request) → IsOwnAccess store page from a → (m : Made) → IsBetween a m → P m
of-own P store page from holds a (inl (line, is)) m between = holds.loading line m (subst (λ (b : Request). IsBetween b m) is between)
of-own P store page from holds a (inr (line, word, is)) m between = holds.storing line word m (subst (λ (b : Request). IsBetween b m) is between)
