-- The commands of a processor, in the lines that are put for a script.
use Rattle.std.proofs.Common.{ℕ, ◌≡◌, ◌<◌, ◌+◌, ◌++◌, ◌==◌, Bool, true, false, if◌then◌else◌, List, [], ◌∷◌, length, map, Option, Some, None, zero, suc, ap, ◌∙◌, sym, refl, arith}
use Rattle.std.specs.Prelude.{fold, filter_map, option_to_list}
use Rattle.std.specs.List.{range_with_len, cons_option}
use Rattle.std.proofs.lemmas.List.{append-nil, append_assoc}
use Rattle.hwp_script_read.specs.hwp_script_lines.declared.ScriptLine.{ScriptLine}
use Rattle.hwp_script_read.specs.hwp_script_lines.declared.ScriptLine.TheVariants as forms
use Rattle.hwp_script_read.specs.hwp_script_lines.declared.Command.{Command}
use Rattle.hwp_script_read.specs.hwp_script_lines.declared.Go.{Go}
use Rattle.hwp_script_read.specs.Context.{command_of, commands_in, place_after}
use Rattle.hwp_script_read.specs.Collects.{command_at, commands_from, commands_of}
use Rattle.hwp_script_read.proofs.CollectLaws.{no_command, same_lists, same, other}
use Rattle.hwp_script.specs.Text.{list_forms, numbered, go_row}

-- one part of the lines after another
commands_from-append : (p : Option ℕ) (c : ℕ) (xs ys : List ScriptLine) → commands_from p c (xs ++ ys) ≡ commands_from p c xs ++ commands_from (fold place_after p xs) c ys
commands_from-append p c [] ys = refl
commands_from-append p c (x ∷ xs) ys =
    ap (λ t. option_to_list (command_at p c x) ++ t) (commands_from-append (place_after p x) c xs ys)
    ∙ sym (append_assoc (option_to_list (command_at p c x)) (commands_from (place_after p x) c xs) (commands_from (fold place_after (place_after p x) xs) c ys))

-- lines that are no commands
none_of : (f : ScriptLine) (o : Option Command) (rest : List Command) → command_of f ≡ o → length (cons_option o rest) ≡ 0 → (command_of f ≡ None) × (length rest ≡ 0)
none_of f None rest e h = (e, h)
none_of f (Some x) rest e h = absurd (omega (arith, h))

pub none_from : (p : Option ℕ) (c : ℕ) (xs : List ScriptLine) → commands_in xs ≡ 0 → commands_from p c xs ≡ []
none_from p c [] h = refl
none_from p c (x ∷ xs) h =
    let parts = none_of x (command_of x) (filter_map command_of xs) refl h in
    rw (no_command p c x parts.0) (none_from (place_after p x) c xs parts.1)

rows_from : (p : Option ℕ) (c : ℕ) (go : List Go) (i n : ℕ) → commands_from p c (map (go_row go) (range_with_len i n)) ≡ []
rows_from p c go i zero = refl
rows_from p c go i (suc n) = rw (no_command p c (go_row go i) refl) (rows_from None c go (i + 1) n)

-- the commands of a list, in it and in another
abbrev chosen : Bool → List Command → List Command
chosen test list = if test then list else []

nothing_chosen : (test : Bool) → chosen test [] ≡ []
nothing_chosen true = refl
nothing_chosen false = refl

chosen_more : (test : Bool) (cmd : Command) (list : List Command) → option_to_list (if test then Some cmd else None) ++ chosen test list ≡ chosen test (cmd ∷ list)
chosen_more true cmd list = refl
chosen_more false cmd list = refl

list_from : (m c : ℕ) (list : List Command) → commands_from (Some m) c (map forms.Command list) ≡ chosen (m == c) list
list_from m c [] = sym (nothing_chosen (m == c))
list_from m c (cmd ∷ list) =
    ap (λ t. option_to_list (if m == c then Some cmd else None) ++ t) (list_from m c list) ∙ chosen_more (m == c) cmd list

list_place : (m : ℕ) (list : List Command) → fold place_after (Some m) (map forms.Command list) ≡ Some m
list_place m [] = refl
list_place m (cmd ∷ list) = list_place m list

-- the first list and the others
lists_from : (p : Option ℕ) (m c : ℕ) (list : List Command) (lists : List (List Command))
    → commands_from p c (numbered list_forms m (list ∷ lists)) ≡ chosen (m == c) list ++ commands_from (Some m) c (numbered list_forms (m + 1) lists)
lists_from p m c list lists =
    ap (λ t. t ++ commands_from (Some m) c (map forms.Command list ++ numbered list_forms (m + 1) lists)) (no_command p c (forms.Cpu m) refl)
    ∙ commands_from-append (Some m) c (map forms.Command list) (numbered list_forms (m + 1) lists)
    ∙ rw (list_from m c list, list_place m list) refl

-- the lists of higher processors
lists_below : (p : Option ℕ) (m c : ℕ) (lists : List (List Command)) → c < m → commands_from p c (numbered list_forms m lists) ≡ []
lists_below p m c [] l = refl
lists_below p m c (list ∷ lists) l =
    lists_from p m c list lists ∙ rw (other m c (λ e. omega (arith, e, l))) (lists_below (Some m) (m + 1) c lists (omega arith))

-- each processor's list is read back
pub lists_back : (p : Option ℕ) (m : ℕ) (lists : List (List Command)) → map (λ c. commands_from p c (numbered list_forms m lists)) (range_with_len m (length lists)) ≡ lists
lists_back p m [] = refl
lists_back p m (list ∷ lists) =
    let here : commands_from p m (numbered list_forms m (list ∷ lists)) ≡ list =
    lists_from p m m list lists ∙ rw (same m m refl, lists_below (Some m) (m + 1) m lists (omega arith)) (append-nil list) in
    let rest : map (λ c. commands_from p c (numbered list_forms m (list ∷ lists))) (range_with_len (m + 1) (length lists)) ≡ lists =
    same_lists (λ c. commands_from p c (numbered list_forms m (list ∷ lists))) (λ c. commands_from (Some m) c (numbered list_forms (m + 1) lists)) (m + 1) (length lists)
    (λ c l. lists_from p m c list lists ∙ rw (other m c (λ e. omega (arith, e, l))) refl) ∙ lists_back (Some m) (m + 1) lists in
    cc

-- the commands of a processor, where the lists stand between lines that have none
pub between : (c : ℕ) (front : List ScriptLine) (lists : List (List Command)) (go : List Go) (n : ℕ) → commands_in front ≡ 0
    → commands_of (front ++ numbered list_forms 0 lists ++ map (go_row go) (range_with_len 0 n) ++ forms.End ∷ []) c
    ≡ commands_from (fold place_after None front) c (numbered list_forms 0 lists)
between c front lists go n h =
    let p = fold place_after None front in
    let lines = numbered list_forms 0 lists in
    let rows = map (go_row go) (range_with_len 0 n) in
    commands_from-append None c (front ++ lines ++ rows) (forms.End ∷ [])
    ∙ rw (no_command (fold place_after None (front ++ lines ++ rows)) c forms.End refl) (append-nil (commands_from None c (front ++ lines ++ rows)))
    ∙ commands_from-append None c (front ++ lines) rows
    ∙ rw (rows_from (fold place_after None (front ++ lines)) c go 0 n) (append-nil (commands_from None c (front ++ lines)))
    ∙ commands_from-append None c front lines ∙ rw (none_from None c front h) refl
