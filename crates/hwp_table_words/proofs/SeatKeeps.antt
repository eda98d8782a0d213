-- A seat whose rights come and go has the views and the slots that it had.
use Rattle.std.proofs.Common.{◌≡◌, ℕ, ◌+◌, ◌<◌, List, [], ◌∷◌, ◌++◌, length, map, ap, ◌∙◌, sym, subst, arith}
use Rattle.std.proofs.lemmas.List.{append-nil, length-append, length-map}
use Rattle.atomic_table.specs.Seated.{TableId}
use Rattle.hwp_core_rule.specs.hwp_geom.declared.Layout.{Layout}
use Rattle.hwp_core_rule.specs.declared.FrameLock.{FrameLock}
use Rattle.hwp_core_rule.specs.declared.PageLock.{PageLock}
use Rattle.hwp_core_rule.specs.declared.View.{View}
use Rattle.hwp_table_words.specs.Carrying.{vacant}
use Rattle.hwp_table_words.specs.CacheCounts.{told_counts}
use Rattle.hwp_table_words.specs.Known.{Knowing, joined, joining, let_go, times, with_note}
use Rattle.hwp_table_words.specs.Seats.{HasCache, IsSeat, IsTableOf, cpu_of, mine_of, slots_of}
use Rattle.hwp_table_words.specs.Stands.{Me, first_me}
use Rattle.hwp_table_words.specs.declared.counts.TlbCounts.{TlbCounts}
use Rattle.hwp_table_words.specs.tlb.Caching.{Caching, idle_caching, joined_caching}
use Rattle.hwp_table_words.specs.tlb.Steps.{IsGuarded}
use Rattle.hwp_table_words.proofs.tlb.CachingLaws.{joined-idle}

pub some-word : (ways : ℕ) (layout : Layout) (id : TableId) → IsTableOf ways layout id → 0 < id.words
some-word ways layout id is = omega (arith, is.words)

-- what it keeps of the caches
pub cache-same : {places : ℕ} {counts : TlbCounts} {k l : Knowing} → l.known.mines ≡ k.known.mines → l.caching ≡ k.caching → HasCache places counts k → HasCache places counts l
cache-same {places} {counts} {k} {l} mines caching h = record {
  guarded = subst (λ (c : Caching). IsGuarded places (mine_of l.known.mines) c) (sym caching) (subst (λ (m : List (ℕ × View)). IsGuarded places (mine_of m) k.caching) (sym mines) h.guarded);
  counted = h.counted ∙ ap (λ (c : Caching). told_counts c.counts) (sym caching);
}

-- a seat that carries no slot and lists no lock has no page's lock
no-pages : (layout : Layout) (v : View) → slots_of layout v ≡ [] → length v.pages ≡ 0
no-pages layout v none =
    let frames : List ℕ = map (λ (l : FrameLock). l.frame.0) v.locks in
    let pages : List ℕ = map (λ (l : PageLock). l.page.0) v.pages in
    let all : 0 ≡ length frames + length (map (λ (q : ℕ). layout.frames + q) pages) = ap length (sym none) ∙ length-append frames (map (λ (q : ℕ). layout.frames + q) pages) in
    let count : length (map (λ (q : ℕ). layout.frames + q) pages) ≡ length v.pages = length-map pages (λ (q : ℕ). layout.frames + q) ∙ length-map v.pages (λ (l : PageLock). l.page.0) in
    omega (arith, all, count)

pub seat-new : (ways : ℕ) (layout key : Layout) (id of : TableId) (me : Me) (order : List ℕ) → IsTableOf ways layout id → key ≡ layout → of ≡ id → me.0.known.mines ≡ (cpu_of me.0.known.mines, mine_of me.0.known.mines) ∷ [] → me.1 ≡ []
    → slots_of layout (mine_of me.0.known.mines) ≡ [] → order ≡ [] → IsSeat ways layout key id of (first_me me) order
seat-new ways layout key id of me order table key-is same one bare none order-is = record {
  key_is = key-is;
  table = table;
  same = same;
  one = one;
  carries = record {
    empty = bare ∙ ap vacant (sym order-is);
    same = λ slot. ap (times slot) (order-is ∙ sym none);
    few = ap length (order-is ∙ sym none);
  };
}

pub cache-new : (places : ℕ) (layout : Layout) (k : Knowing) → slots_of layout (mine_of k.known.mines) ≡ [] → k.caching ≡ idle_caching → HasCache places (record { hits = 0; fills = 0; flushes = 0 }) k
cache-new places layout k none idle = record {
  guarded = λ some f lock. absurd (let no = no-pages layout (mine_of k.known.mines) none in omega (arith, no, some));
  counted = ap (λ (c : Caching). told_counts c.counts) (sym idle);
}

module _ (ways : ℕ) (layout key : Layout) (id of now : TableId) (me new : Me) (order : List ℕ) (is : IsSeat ways layout key id of (first_me me) order) (same : now ≡ of) where
  seat-same : new.0.known.mines ≡ me.0.known.mines → new.1 ≡ me.1 → IsSeat ways layout key id now (first_me new) order
  seat-same mines slots = record {
    key_is = is.key_is;
    table = is.table;
    same = same ∙ is.same;
    one = subst (λ (l : List (ℕ × View)). l ≡ (cpu_of l, mine_of l) ∷ []) (sym mines) is.one;
    carries = record {
      empty = slots ∙ is.carries.empty;
      same = λ slot. is.carries.same slot ∙ ap (λ (l : List (ℕ × View)). times slot (slots_of layout (mine_of l))) (sym mines);
      few = is.carries.few ∙ ap (λ (l : List (ℕ × View)). length (slots_of layout (mine_of l))) (sym mines);
    };
  }

  module _ (w : Knowing) (idle : w.caching ≡ idle_caching) (none : w.known.mines ≡ []) (is-new : new ≡ (joining me.0 w, me.1)) where
    mines-is : me.0.known.mines ++ w.known.mines ≡ me.0.known.mines
    mines-is = ap (λ (l : List (ℕ × View)). me.0.known.mines ++ l) none ∙ append-nil me.0.known.mines

    pub gathered : new.0 ≡ record me.0 { known = with_note me.0.known w.known }
    gathered = ap (λ (m : Me). m.0) is-new ∙ (λ i. record {
      known = record { mines = mines-is i; own = (joined me.0.known w.known).own; rights = (joined me.0.known w.known).rights; whole = (joined me.0.known w.known).whole };
      caching = (ap (joined_caching me.0.caching) idle ∙ joined-idle me.0.caching) i;
    })

    pub seat-gathers : IsSeat ways layout key id now (first_me new) order
    seat-gathers = seat-same (ap (λ (v : Knowing). v.known.mines) gathered) (ap (λ (m : Me). m.1) is-new)

    pub cache-gathers : {places : ℕ} {counts : TlbCounts} → HasCache places counts me.0 → HasCache places counts new.0
    cache-gathers h = cache-same (ap (λ (v : Knowing). v.known.mines) gathered) (ap (λ (v : Knowing). v.caching) gathered) h

  module _ (is-new : new ≡ (record me.0 { known = let_go me.0.known }, me.1)) where
    pub seat-lets : IsSeat ways layout key id now (first_me new) order
    seat-lets = seat-same (ap (λ (m : Me). m.0.known.mines) is-new) (ap (λ (m : Me). m.1) is-new)

    pub cache-lets : {places : ℕ} {counts : TlbCounts} → HasCache places counts me.0 → HasCache places counts new.0
    cache-lets h = cache-same (ap (λ (m : Me). m.0.known.mines) is-new) (ap (λ (m : Me). m.0.caching) is-new) h
