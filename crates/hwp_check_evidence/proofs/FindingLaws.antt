-- What was found in the first pages and is found in the others is what is found in all.
use Rattle.std.proofs.Common.{◌≡◌, ℕ, ◌+◌, ◌<◌, ◌≤◌, Bool, false, List, [], ◌∷◌, ◌++◌, Some, append_assoc, drop, fold, get_or, length, map, option_map, replicate, slice_get, refl, sym, ap, ◌∙◌, subst, arith, Option}
use Rattle.std.proofs.lemmas.List.{append-nil, at_drop_all, at_drop_more, length-map, length_push}
use Rattle.std.proofs.lemmas.Option.{none-some, same_Some, slice_get-map, slice_get_read}
use Rattle.hwp_law.specs.hwp_geom.declared.Cpu.{Cpu}
use Rattle.hwp_law.specs.hwp_geom.declared.Layout.{Layout}
use Rattle.hwp_law.specs.hwp_page.declared.At.{At}
use Rattle.hwp_law.specs.hwp_page.declared.Entry.{Entry}
use Rattle.hwp_check_evidence.specs.Ends.{none_ended, own_ends, own_page_ends, page_ends}
use Rattle.hwp_check_evidence.specs.Findings.{AreFound, IsAdded}
use Rattle.hwp_check_evidence.specs.Named.{flagged_page, flagged_pages}
use Rattle.hwp_check_evidence.specs.Windows.{IsSpan}
use Rattle.hwp_check_evidence.specs.declared.findings.Findings.{Findings}
use Rattle.hwp_check_evidence.specs.declared.windows.Span.{Span}
use Rattle.hwp_check_evidence.proofs.NamedLaws.{others_many}
use Rattle.hwp_check_evidence.proofs.ListItems.{each-push}
use Rattle.hwp_law.specs.hwp_geom.declared.VSlot.{VSlot}
use Rattle.hwp_law.specs.hwp_geom.declared.Who.{Who}

-- a fold over the rest, with one item less to come
pub fold-next : {X Y : Type 0} (f : Y → X → Y) (y all : Y) (xs : List X) (n : ℕ) (x : X) → n < length xs → x ≡ get_or xs n x → fold f y (drop n xs) ≡ all → fold f (f y x) (drop (n + 1) xs) ≡ all
fold-next f y all xs n x low is so = ap (λ (z : _). fold f (f y z) (drop (n + 1) xs)) is ∙ sym (at_drop_more (fold f y) xs n x low) ∙ so

-- and a list that is made item by item
list-next : {X Y : Type 0} (f : X → Y) (made all : List Y) (xs : List X) (n : ℕ) (x : X) → n < length xs → x ≡ get_or xs n x → made ++ map f (drop n xs) ≡ all → (made ++ f x ∷ []) ++ map f (drop (n + 1) xs) ≡ all
list-next f made all xs n x low is so =
    append_assoc made (f x ∷ []) (map f (drop (n + 1) xs))
    ∙ ap (λ (z : _). made ++ f z ∷ map f (drop (n + 1) xs)) is
    ∙ sym (at_drop_more (λ (l : List _). made ++ map f l) xs n x low)
    ∙ so

module _ (layout : Layout) (named : ℕ → At → Bool) (copies : Who → Option VSlot) (cpu : Cpu) (commands : ℕ) (pages : List (List Entry)) where
  -- what was found in the first pages
  pub record IsFoundUpTo (n : ℕ) (found : Findings) : Type 0 where
    pub ends : found.ends.items ++ map (page_ends layout cpu) (drop n pages) ≡ map (page_ends layout cpu) pages
    pub ended : fold (own_page_ends layout cpu) found.ended.items (drop n pages) ≡ own_ends layout cpu pages
    pub as_many : length found.spans.items ≡ n
    pub spans : (page : ℕ) (span : Span) → slice_get found.spans.items page ≡ Some span → (entries : List Entry) → slice_get pages page ≡ Some entries → IsSpan cpu entries span
    pub others : flagged_pages named copies cpu found.others.items n (drop n pages) ≡ flagged_pages named copies cpu (replicate commands false) 0 pages

  pub found-more : (n : ℕ) (entries : List Entry) (old new : Findings) → n < length pages → entries ≡ get_or pages n entries → IsFoundUpTo n old → IsAdded layout named copies cpu (record { 0 = n }) entries old new → IsFoundUpTo (n + 1) new
  found-more n entries old new low is found added =
      let there : slice_get pages n ≡ Some entries = slice_get_read pages (length pages) n entries refl low is in
      record {
        ends = ap (λ (l : List (List ℕ)). l ++ map (page_ends layout cpu) (drop (n + 1) pages)) added.ends ∙ list-next (page_ends layout cpu) old.ends.items (map (page_ends layout cpu) pages) pages n entries low is found.ends;
        ended = ap (λ (l : List ℕ). fold (own_page_ends layout cpu) l (drop (n + 1) pages)) added.ended ∙ fold-next (own_page_ends layout cpu) old.ended.items (own_ends layout cpu pages) pages n entries low is found.ended;
        as_many = ap length added.spans ∙ length_push old.spans.items added.span ∙ ap (λ (m : ℕ). m + 1) found.as_many;
        spans = λ page span got.
            each-push (λ (i : ℕ) (s : Span). (es : List Entry) → slice_get pages i ≡ Some es → IsSpan cpu es s) old.spans.items added.span found.spans
            (λ es at. subst (λ (l : List Entry). IsSpan cpu l added.span) (same_Some _ _ (sym there ∙ ap (slice_get pages) (sym found.as_many) ∙ at)) added.is_span)
            page span (subst (λ (l : List Span). slice_get l page ≡ Some span) added.spans got);
        others =
            ap (λ (l : List Bool). flagged_pages named copies cpu l (n + 1) (drop (n + 1) pages)) added.others
            ∙ ap (λ (es : List Entry). flagged_pages named copies cpu (flagged_page named copies cpu (record { 0 = n }) old.others.items 0 es) (n + 1) (drop (n + 1) pages)) is
            ∙ sym (at_drop_more (flagged_pages named copies cpu old.others.items n) pages n entries low)
            ∙ found.others;
      }

  pub found-none : (found : Findings) → found.ends.items ≡ [] → found.ended.items ≡ none_ended layout → found.spans.items ≡ [] → found.others.items ≡ replicate commands false → IsFoundUpTo 0 found
  found-none found ends ended spans others = record {
    ends = ap (λ (l : List (List ℕ)). l ++ map (page_ends layout cpu) pages) ends;
    ended = ap (λ (l : List ℕ). fold (own_page_ends layout cpu) l pages) ended;
    as_many = ap length spans;
    spans = λ page span got. absurd (none-some span (subst (λ (l : List Span). slice_get l page ≡ Some span) spans got));
    others = ap (λ (l : List Bool). flagged_pages named copies cpu l 0 pages) others;
  }

  pub found-all : (n : ℕ) (found : Findings) → length pages ≤ n → n ≤ length pages → IsFoundUpTo n found → AreFound layout named copies cpu commands pages found
  found-all n found past within up =
      let ends_are : found.ends.items ≡ map (page_ends layout cpu) pages =
      sym (append-nil found.ends.items) ∙ sym (at_drop_all (λ (l : List (List Entry)). found.ends.items ++ map (page_ends layout cpu) l) pages n past) ∙ up.ends in
      let others_are : found.others.items ≡ flagged_pages named copies cpu (replicate commands false) 0 pages =
      sym (at_drop_all (flagged_pages named copies cpu found.others.items n) pages n past) ∙ up.others in
      let as_many : length found.spans.items ≡ n = up.as_many in
      record {
        ends = record {
          many = ap length ends_are ∙ length-map pages (page_ends layout cpu);
          each = λ page list ends at got. same_Some _ _ (sym got ∙ ap (λ (l : List (List ℕ)). slice_get l page) ends_are ∙ slice_get-map (page_ends layout cpu) pages page ∙ ap (option_map (page_ends layout cpu)) at);
        };
        ended = sym (at_drop_all (fold (own_page_ends layout cpu) found.ended.items) pages n past) ∙ up.ended;
        spans = record {
          many = omega (arith, as_many, past, within);
          each = λ page entries span at got. up.spans page span got entries at;
        };
        others = others_are;
        many = ap length others_are ∙ others_many named copies cpu pages commands;
      }
