use Rattle.std.proofs.Common.{◌≡◌, ℕ, Bool, List, [], ◌∷◌, ◌++◌, map, length, replicate, ap, sym, ◌∙◌}
use Rattle.std.proofs.lemmas.List.{append-nil}
use Rattle.hwp_core_rule.specs.hwp_geom.declared.Layout.{Layout}
use Rattle.hwp_core_rule.specs.Opening.{below, opening_frame, opening_free, opening_available, opening_words}
use Rattle.hwp_core_rule.specs.Words.{free_words}
use Rattle.hwp_plain.specs.Openings.{usable_in}
use Rattle.hwp_plain.proofs.SlotLists.{added, filled}
use Rattle.hwp_plain.proofs.words.opening_words.Goals as goal

pub returns : goal.returns
returns c =
    let l : Layout = c.args.layout.now in
    let all : List ℕ = opening_words l in
    let rest12 : List ℕ = (0 ∷ []) ++ [] in
    let rest11 : List ℕ = replicate l.files 0 ++ rest12 in
    let rest10 : List ℕ = replicate (length l.threads) 2 ++ rest11 in
    let rest9 : List ℕ = replicate l.procs 0 ++ rest10 in
    let rest8 : List ℕ = (0 ∷ []) ++ rest9 in
    let rest7 : List ℕ = replicate l.frames 0 ++ rest8 in
    let rest6 : List ℕ = replicate l.frames 0 ++ rest7 in
    let rest5 : List ℕ = (opening_available l ∷ []) ++ rest6 in
    let rest4 : List ℕ = map (opening_free l) (below (free_words l)) ++ rest5 in
    let rest3 : List ℕ = replicate (length l.pages) 0 ++ rest4 in
    let rest2 : List ℕ = replicate (length l.pages) 0 ++ rest3 in
    let rest1 : List ℕ = replicate (length l.trans) 0 ++ rest2 in
    let all0 : c.new-words.result.items ++ (map opening_frame l.kernel ++ rest1) ≡ all = ap (λ (w : List ℕ). w ++ (map opening_frame l.kernel ++ rest1)) c.new-words.ensures.items in
    let all1 : c.add_frames.new.words.items ++ rest1 ≡ all = added c.add_frames.new.words.items c.new-words.result.items (map opening_frame l.kernel) rest1 all (c.in_ok-add_frames.ensures ∙ ap (λ (ks : List Bool). c.new-words.result.items ++ map opening_frame ks) c.as_slice.ensures) all0 in
    let all2 : c.fill.new.words.items ++ rest2 ≡ all = filled c.fill.new.words.items c.add_frames.new.words.items c.len.result (length l.trans) 0 rest2 all c.in_ok-fill.ensures c.len.ensures all1 in
    let all3 : c.fill-2.new.words.items ++ rest3 ≡ all = filled c.fill-2.new.words.items c.fill.new.words.items c.len-2.result (length l.pages) 0 rest3 all c.in_ok-fill-2.ensures c.len-2.ensures all2 in
    let all4 : c.fill-3.new.words.items ++ rest4 ≡ all = filled c.fill-3.new.words.items c.fill-2.new.words.items c.len-3.result (length l.pages) 0 rest4 all c.in_ok-fill-3.ensures c.len-3.ensures all3 in
    let all5 : c.add_frees.new.words.items ++ rest5 ≡ all = added c.add_frees.new.words.items c.fill-3.new.words.items (map (opening_free l) (below (free_words l))) rest5 all c.in_ok-add_frees.ensures all4 in
    let all6 : c.fill-4.new.words.items ++ rest6 ≡ all = added c.fill-4.new.words.items c.add_frees.new.words.items (opening_available l ∷ []) rest6 all (c.in_ok-fill-4.ensures ∙ ap (λ (n : ℕ). c.add_frees.new.words.items ++ n ∷ []) (c.available.ensures ∙ ap usable_in c.as_slice-2.ensures)) all5 in
    let all7 : c.fill-5.new.words.items ++ rest7 ≡ all = filled c.fill-5.new.words.items c.fill-4.new.words.items c.from.result l.frames 0 rest7 all c.in_ok-fill-5.ensures c.from.ensures all6 in
    let all8 : c.fill-6.new.words.items ++ rest8 ≡ all = filled c.fill-6.new.words.items c.fill-5.new.words.items c.from-2.result l.frames 0 rest8 all c.in_ok-fill-6.ensures c.from-2.ensures all7 in
    let all9 : c.fill-7.new.words.items ++ rest9 ≡ all = added c.fill-7.new.words.items c.fill-6.new.words.items (0 ∷ []) rest9 all c.in_ok-fill-7.ensures all8 in
    let all10 : c.fill-8.new.words.items ++ rest10 ≡ all = filled c.fill-8.new.words.items c.fill-7.new.words.items c.from-3.result l.procs 0 rest10 all c.in_ok-fill-8.ensures c.from-3.ensures all9 in
    let all11 : c.fill-9.new.words.items ++ rest11 ≡ all = filled c.fill-9.new.words.items c.fill-8.new.words.items c.len-4.result (length l.threads) 2 rest11 all c.in_ok-fill-9.ensures c.len-4.ensures all10 in
    let all12 : c.fill-10.new.words.items ++ rest12 ≡ all = filled c.fill-10.new.words.items c.fill-9.new.words.items c.from-4.result l.files 0 rest12 all c.in_ok-fill-10.ensures c.from-4.ensures all11 in
    let all13 : c.fill-11.new.words.items ++ [] ≡ all = added c.fill-11.new.words.items c.fill-10.new.words.items (0 ∷ []) [] all c.in_ok-fill-11.ensures all12 in
    sym (append-nil c.fill-11.new.words.items) ∙ all13
