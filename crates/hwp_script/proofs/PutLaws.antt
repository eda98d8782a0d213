-- Texts of lines, as they grow.
use Rattle.std.proofs.Common.{ℕ, ◌≡◌, ◌+◌, ◌-◌, ◌<◌, ◌≤◌, ◌⊎◌, inl, inr, ◌++◌, List, [], ◌∷◌, length, get_or, take, drop, length-drop, sym, ap, ◌∙◌, add-zero, append_assoc, append-nil, arith}
use Rattle.std.proofs.lemmas.List.{take_more, length-take-le, take_all}
use Rattle.std.proofs.lemmas.List.FromFn.{map-range_with_len_more}
use Rattle.std.proofs.lemmas.List.Concat.{flat_map-append}
use Rattle.hwp_script_read.specs.hwp_geom.Words.{line}
use Rattle.hwp_script_read.specs.hwp_script_lines.Grammar.{form_words}
use Rattle.hwp_script.specs.Printed.{forms_text}
use Rattle.hwp_script_read.specs.hwp_script_lines.declared.ScriptLine.{ScriptLine}
use Rattle.hwp_script_read.specs.hwp_script_lines.declared.ScriptLine.TheVariants as forms
use Rattle.hwp_script_read.specs.declared.Script.{Script}
use Rattle.hwp_script.specs.Text.{numbered, counted, head_forms, kernel_forms, setting_forms, file_form, proc_form, thread_forms, guest_forms, page_forms, trans_forms, cow_forms, list_forms, go_row, rows_of, script_text}

pub forms_text-append : (xs ys : List ScriptLine) → forms_text (xs ++ ys) ≡ forms_text xs ++ forms_text ys
forms_text-append xs ys = flat_map-append (λ f. line (form_words f)) xs ys

-- one text of lines after another
pub put_more : (old now new : List ℕ) (xs ys : List ScriptLine) → now ≡ old ++ forms_text xs → new ≡ now ++ forms_text ys → new ≡ old ++ forms_text (xs ++ ys)
put_more old now new xs ys e f =
    f ∙ ap (λ t. t ++ forms_text ys) e ∙ append_assoc old (forms_text xs) (forms_text ys) ∙ ap (λ t. old ++ t) (sym (forms_text-append xs ys))

-- one line after a text of lines
pub put_one : (old now new : List ℕ) (xs : List ScriptLine) (f : ScriptLine) → now ≡ old ++ forms_text xs → new ≡ now ++ line (form_words f) → new ≡ old ++ forms_text (xs ++ f ∷ [])
put_one old now new xs f e g = put_more old now new xs (f ∷ []) e (g ∙ ap (λ t. now ++ t) (sym (append-nil (line (form_words f)))))

numbered-push : {A : Type 0} (forms_of : ℕ → A → List ScriptLine) (n : ℕ) (xs : List A) (x : A)
    → numbered forms_of n (xs ++ x ∷ []) ≡ numbered forms_of n xs ++ forms_of (n + length xs) x
numbered-push forms_of n [] x = append-nil (forms_of n x) ∙ ap (λ k. forms_of k x) (sym (add-zero n))
numbered-push forms_of n (y ∷ ys) x =
    ap (λ t. forms_of n y ++ t) (numbered-push forms_of (n + 1) ys x)
    ∙ sym (append_assoc (forms_of n y) (numbered forms_of (n + 1) ys) (forms_of (n + 1 + length ys) x))
    ∙ ap (λ k. (forms_of n y ++ numbered forms_of (n + 1) ys) ++ forms_of k x) (omega arith)

-- after the text of the items below i, the text of item i
pub put_numbered : {A : Type 0} (forms_of : ℕ → A → List ScriptLine) (old now new : List ℕ) (xs : List A) (i : ℕ) (d x : A) → i < length xs
    → now ≡ old ++ forms_text (numbered forms_of 0 (take i xs)) → new ≡ now ++ forms_text (forms_of i x) → x ≡ get_or xs i d
    → new ≡ old ++ forms_text (numbered forms_of 0 (take (i + 1) xs))
put_numbered forms_of old now new xs i d x l e f is =
    let more : numbered forms_of 0 (take (i + 1) xs) ≡ numbered forms_of 0 (take i xs) ++ forms_of i x =
    ap (numbered forms_of 0) (take_more xs i d l) ∙ numbered-push forms_of 0 (take i xs) (get_or xs i d)
    ∙ ap (λ k. numbered forms_of 0 (take i xs) ++ forms_of k (get_or xs i d)) (omega (arith, length-take-le i xs))
    ∙ ap (λ y. numbered forms_of 0 (take i xs) ++ forms_of i y) (sym is) in
    put_more old now new (numbered forms_of 0 (take i xs)) (forms_of i x) e f ∙ ap (λ fs. old ++ forms_text fs) (sym more)

-- after the lines of the numbers below i, the line of i
pub put_counted : (form_of : ℕ → ScriptLine) (old now new : List ℕ) (i : ℕ) → now ≡ old ++ forms_text (counted form_of i)
    → new ≡ now ++ line (form_words (form_of i)) → new ≡ old ++ forms_text (counted form_of (i + 1))
put_counted form_of old now new i e f =
    let more : counted form_of (i + 1) ≡ counted form_of i ++ form_of i ∷ [] =
    map-range_with_len_more form_of 0 i i (omega arith) in
    put_one old now new (counted form_of i) (form_of i) e f ∙ ap (λ fs. old ++ forms_text fs) (sym more)

forms_text-one : (f : ScriptLine) → forms_text (f ∷ []) ≡ line (form_words f)
forms_text-one f = append-nil (line (form_words f))

text_parts : (a b c d e f g h i j k l : List ScriptLine) (z : ScriptLine) → forms_text (a ++ b ++ c ++ d ++ e ++ f ++ g ++ h ++ i ++ j ++ k ++ l ++ z ∷ [])
    ≡ forms_text a ++ forms_text b ++ forms_text c ++ forms_text d ++ forms_text e ++ forms_text f ++ forms_text g ++ forms_text h ++ forms_text i ++ forms_text j ++ forms_text k ++ forms_text l ++ line (form_words z)
text_parts a b c d e f g h i j k l z = simp (forms_text-append, forms_text-one)

-- the text of a script, part by part
pub script_parts : (s : Script) (a b c d e f g h i j k l m n : List ℕ) → a ≡ []
    → b ≡ a ++ forms_text (head_forms s.layout.version s.layout.cpus s.layout.frames)
    → c ≡ b ++ forms_text (numbered kernel_forms 0 s.layout.kernel)
    → d ≡ c ++ forms_text (setting_forms s.layout.recovery s.layout.early)
    → e ≡ d ++ forms_text (counted file_form s.layout.files)
    → f ≡ e ++ forms_text (counted proc_form s.layout.procs)
    → g ≡ f ++ forms_text (numbered thread_forms 0 s.layout.threads)
    → h ≡ g ++ forms_text (numbered guest_forms 0 s.layout.guests)
    → i ≡ h ++ forms_text (numbered (page_forms s.layout.locked) 0 s.layout.pages)
    → j ≡ i ++ forms_text (numbered trans_forms 0 s.layout.trans)
    → k ≡ j ++ forms_text (numbered cow_forms 0 s.layout.twins)
    → l ≡ k ++ forms_text (numbered list_forms 0 s.lists)
    → m ≡ l ++ forms_text (counted (go_row s.go) (rows_of (length s.go)))
    → n ≡ m ++ line (form_words forms.End) → n ≡ script_text s
script_parts s a b c d e f g h i j k l m n ea eb ec ed ee ef eg eh ei ej ek el em en =
    en ∙ rw (em, el, ek, ej, ei, eh, eg, ef, ee, ed, ec, eb, ea) (sym (text_parts (head_forms s.layout.version s.layout.cpus s.layout.frames) (numbered kernel_forms 0 s.layout.kernel)
    (setting_forms s.layout.recovery s.layout.early) (counted file_form s.layout.files) (counted proc_form s.layout.procs) (numbered thread_forms 0 s.layout.threads) (numbered guest_forms 0 s.layout.guests)
    (numbered (page_forms s.layout.locked) 0 s.layout.pages) (numbered trans_forms 0 s.layout.trans) (numbered cow_forms 0 s.layout.twins) (numbered list_forms 0 s.lists) (counted (go_row s.go) (rows_of (length s.go))) forms.End))

-- the words from one place to another, where 50 or fewer follow
pub row_words : {A : Type 0} (xs : List A) (start end : ℕ) → start ≤ length xs
    → ((end ≡ length xs) × (length xs ≤ start + 50)) ⊎ ((end ≡ start + 50) × (start + 50 ≤ length xs))
    → take (end - start) (drop start xs) ≡ take 50 (drop start xs)
row_words xs start end l (inl h) =
    take_all (end - start) (drop start xs) (rw length-drop (omega (arith, h.0, h.1))) ∙ sym (take_all 50 (drop start xs) (rw length-drop (omega (arith, h.0, h.1))))
row_words xs start end l (inr h) =
    let fifty : end - start ≡ 50 = omega (arith, h.0, h.1) in ap (λ k. take k (drop start xs)) fifty
