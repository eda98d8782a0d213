-- The guests that are put behind the threads: each line is clean.
use Rattle.std.proofs.Common.{ℕ, ◌≡◌, ◌<◌, ◌≤◌, ◌+◌, ◌++◌, Bool, true, false, List, [], ◌∷◌, length, get_or, set, zero, suc, ap, subst, ◌∙◌, sym, refl, arith}
use Rattle.std.specs.Prelude.{All}
use Rattle.std.proofs.lemmas.List.{append-nil, append_assoc, length_push, length-append}
use Rattle.std.proofs.lemmas.List.Elements.{All-head, All-tail}
use Rattle.hwp_script_read.specs.hwp_geom.declared.ThreadDecl.{ThreadDecl}
use Rattle.hwp_script_read.specs.hwp_geom.declared.Version.TheVariants as versions
use Rattle.hwp_script_read.specs.hwp_script_lines.declared.ScriptLine.{ScriptLine}
use Rattle.hwp_script_read.specs.hwp_script_lines.declared.ScriptLine.TheVariants as forms
use Rattle.hwp_script_read.specs.Context.{version_in, procs_in, threads_in, guests_in}
use Rattle.hwp_script_read.specs.Reasons.{IsClean}
use Rattle.hwp_script_read.proofs.CleanLaws.{IsGuestClean}
use Rattle.hwp_script_read.proofs.GuestLaws.{AreFit, IsNot}
use Rattle.hwp_script_read.proofs.TwinLaws.{clash}
use Rattle.hwp_script.specs.Text.{guest_forms, numbered}
use Rattle.hwp_script.proofs.CleanPut.{put_guest}
use Rattle.hwp_script.proofs.Sections.{Known, IsMade, noes, made_push, made_then, made_nil, placed, plain}

-- ---- the guests so far, and none among the processes behind

abbrev so_far : List Bool → List Bool → List Bool
so_far done rest = done ++ noes (length rest)

at_end : (xs : List Bool) (y : Bool) (ys : List Bool) → get_or (xs ++ y ∷ ys) (length xs) false ≡ y
at_end [] y ys = refl
at_end (x ∷ xs) y ys = at_end xs y ys

set_at : (xs : List Bool) (x y : Bool) (ys : List Bool) → set (xs ++ x ∷ ys) (length xs) y ≡ xs ++ y ∷ ys
set_at [] x y ys = refl
set_at (z ∷ zs) x y ys = ap (λ t. z ∷ t) (set_at zs x y ys)

clean : {fs : List ScriptLine} (k : Known) (done rest all : List Bool) → IsMade fs 9 (record k { guests = so_far done (true ∷ rest) }) → done ++ true ∷ rest ≡ all → AreFit k.threads all
    → length all ≡ k.procs → k.procs ≤ 16 → 0 < k.cpus → 0 < k.frames → (k.version ≡ versions.One → All IsNot (true ∷ rest)) → IsGuestClean fs (length done)
clean {fs} k done rest all h is fit long few c f older =
    let procs : procs_in fs ≡ k.procs = ap (λ (x : Known). x.procs) h.same in
    let threads : threads_in fs ≡ k.threads = ap (λ (x : Known). x.threads) h.same in
    let guests : guests_in fs ≡ so_far done (true ∷ rest) = ap (λ (x : Known). x.guests) h.same in
    let many : length all ≡ length done + length (true ∷ rest) = ap length (sym is) ∙ length-append done (true ∷ rest) in
    record {
      placed = placed h c f;
      newer = λ one. clash true refl (All-head IsNot true rest (older (sym (ap (λ (x : Known). x.version) h.same) ∙ one)));
      few = omega (arith, many, long, few);
      declared = omega (arith, many, long, procs);
      fresh = rw guests (at_end done false (noes (length rest)));
      fit = rw threads (fit.each (length done) (ap (λ (gs : List Bool). get_or gs (length done) false) (sym is) ∙ at_end done true rest));
    }

made_guests : {fs : List ScriptLine} (k : Known) (done rest all : List Bool) → IsMade fs 9 (record k { guests = so_far done rest }) → done ++ rest ≡ all → AreFit k.threads all
    → length all ≡ k.procs → k.procs ≤ 16 → 0 < k.cpus → 0 < k.frames → (k.version ≡ versions.One → All IsNot rest)
    → IsMade (fs ++ numbered guest_forms (length done) rest) 9 (record k { guests = done ++ rest })
made_guests k done [] all h is fit long few c f older = made_nil h
made_guests {fs} k done (false ∷ rest) all h is fit long few c f older =
    let next : IsMade fs 9 (record k { guests = so_far (done ++ false ∷ []) rest }) = rw (append_assoc done (false ∷ []) (noes (length rest))) h in
    let made = made_guests k (done ++ false ∷ []) rest all next (append_assoc done (false ∷ []) rest ∙ is) fit long few c f (λ one. All-tail IsNot false rest (older one)) in
    rw (length_push, append_assoc done (false ∷ []) rest) at made
made_guests {fs} k done (true ∷ rest) all h is fit long few c f older =
    let now = clean k done rest all h is fit long few c f older in
    let guests : set (so_far done (true ∷ rest)) (length done) true ≡ so_far (done ++ true ∷ []) rest =
    set_at done false true (noes (length rest)) ∙ sym (append_assoc done (true ∷ []) (noes (length rest))) in
    let pushed : IsMade (fs ++ forms.Guest (length done) ∷ []) 9 (record k { guests = so_far (done ++ true ∷ []) rest }) =
    subst (λ (gs : List Bool). IsMade (fs ++ forms.Guest (length done) ∷ []) 9 (record k { guests = gs })) guests
    (made_push (forms.Guest (length done)) h (omega arith) (plain (omega (arith, now.few)) refl) (put_guest h.some now)) in
    let made = made_guests k (done ++ true ∷ []) rest all pushed (append_assoc done (true ∷ []) rest ∙ is) fit long few c f (λ one. All-tail IsNot true rest (older one)) in
    made_then fs (forms.Guest (length done)) (numbered guest_forms (length done + 1) rest) (rw (length_push, append_assoc done (true ∷ []) rest) at made)

-- all guests, where none was put before
pub made_hosted : {fs : List ScriptLine} (k : Known) (all : List Bool) (n : ℕ) → n ≡ length all → IsMade fs 9 (record k { guests = noes n }) → AreFit k.threads all
    → length all ≡ k.procs → k.procs ≤ 16 → 0 < k.cpus → 0 < k.frames → (k.version ≡ versions.One → All IsNot all)
    → IsMade (fs ++ numbered guest_forms 0 all) 9 (record k { guests = all })
made_hosted {fs} k all n e h fit long few c f older =
    made_guests k [] all all (subst (λ (m : ℕ). IsMade fs 9 (record k { guests = noes m })) e h) refl fit long few c f older
