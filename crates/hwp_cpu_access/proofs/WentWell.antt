-- An access of a copy that went well: it is one more run, and the access that comes behind it begins.
use Rattle.std.proofs.Common.{◌≡◌, ◌⊎◌, inl, inr, ℕ, ◌+◌, ◌<◌, List, [], ◌∷◌, ◌++◌, Option, Some, IsBitSet, IsSomeAnd, length, append-nil, append_assoc, refl, sym, ap, ◌∙◌, subst, arith}
use Rattle.std.proofs.lemmas.Option.{none-some, same_Some}
use Rattle.std.proofs.lemmas.List.{length-append}
use Rattle.hwp_fault.specs.hwp_geom.declared.Layout.{Layout}
use Rattle.hwp_fault.specs.hwp_geom.declared.Mode.{Mode}
use Rattle.hwp_fault.specs.hwp_geom.declared.Page.{Page}
use Rattle.hwp_fault.specs.hwp_geom.declared.Proc.{Proc}
use Rattle.hwp_fault.specs.hwp_geom.declared.TransDecl.{TransDecl}
use Rattle.hwp_fault.specs.hwp_geom.declared.VSlot.{VSlot}
use Rattle.hwp_fault.specs.hwp_geom.declared.Who.{Who}
use Rattle.hwp_fault.specs.hwp_geom.Limits.{line_limit}
use Rattle.hwp_fault.specs.hwp_page.declared.At.{At}
use Rattle.hwp_fault.specs.hwp_page.Step.{IsOf}
use Rattle.hwp_fault.specs.hwp_core_rule.declared.Made.{Made}
use Rattle.hwp_fault.specs.hwp_core_rule.declared.SharedWord.TheVariants as places
use Rattle.hwp_fault.specs.hwp_core_rule.declared.View.{View}
use Rattle.hwp_fault.specs.hwp_core_rule.Lists.{EachMember}
use Rattle.hwp_fault.proofs.of_hwp_core_rule.Lists.{each-weaken}
use Rattle.hwp_fault.proofs.of_hwp_core_rule.MoreEntries.{each-append}
use Rattle.hwp_fault.specs.hwp_core_rule.Calls.{IsOnTurn}
use Rattle.hwp_fault.specs.hwp_core_rule.Hands.{hand_of, empty}
use Rattle.hwp_fault.specs.hwp_core_rule.Known.{HasMadeBeside, HasMadeNoneBeside, Precedes, Saw, deeds}
use Rattle.hwp_fault.specs.declared.AccessAnswer.TheVariants as access_answers
use Rattle.hwp_fault.specs.declared.AccessKind.{AccessKind}
use Rattle.hwp_fault.specs.declared.AccessKind.TheVariants as kinds
use Rattle.hwp_fault.specs.declared.Request.{Request}
use Rattle.hwp_fault.specs.Accesses as accesses
use Rattle.hwp_fault.specs.Accesses.{what_by, what_of}
use Rattle.hwp_claim.specs.Checks.{left_by, lines_of}
use Rattle.hwp_claim.specs.hwp_banks.Banks.{Banks}
use Rattle.hwp_claim.specs.hwp_banks.declared.Origin.{Origin}
use Rattle.hwp_claim.specs.hwp_banks.declared.Origin.TheVariants as origins
use Rattle.hwp_fault.specs.hwp_evict.declared.evict.Eviction.TheVariants as evictions
use Rattle.hwp_fault.specs.hwp_evict.Evicts as evicts
use Rattle.hwp_fork.specs.declared.cow.Cow.{Cow}
use Rattle.hwp_fork.specs.declared.cow.Sub.{Sub}
use Rattle.hwp_fork.specs.declared.cow.Sub.TheVariants as subs
use Rattle.hwp_fork.specs.Cows.{sub_of, told_all, told_by}
use Rattle.hwp_cpu_access.specs.Checks.{AreChecks}
use Rattle.hwp_cpu_access.specs.declared.instruction.InstructionAnswer.{InstructionAnswer}
use Rattle.hwp_cpu_access.specs.declared.instruction.InstructionAt.{InstructionAt}
use Rattle.hwp_cpu_access.specs.declared.instruction.InstructionAt.TheVariants as instruction_at
use Rattle.hwp_cpu_access.specs.Fits.{FitsBehind, LetsGoOn, banks_at, checks_in, checks_made}
use Rattle.hwp_cpu_access.specs.Instructions as instructions
use Rattle.hwp_cpu_access.proofs.InstructionLaws.{begins-behind}
use Rattle.hwp_cpu_access.specs.declared.copying.Copying.{Copying}
use Rattle.hwp_cpu_access.specs.declared.copying.CopyingAt.{CopyingAt}
use Rattle.hwp_cpu_access.specs.declared.copying.CopyingAt.TheVariants as at
use Rattle.hwp_cpu_access.specs.Copyings.{going_on, load_of, request_by, store_of, went}
use Rattle.hwp_cpu_access.specs.CopyFits.{FitsAt, FitsFrom, HasRun, IsGoing, begun}
use Rattle.hwp_cpu_access.specs.Runs.{IsAccessRun, IsBetween, IsRun, Run, checks_by, made_by, words_of}
use Rattle.hwp_cpu_access.proofs.CowSteps.{IsOwn, goes-on, request-who, sub-own, told-of}
use Rattle.hwp_cpu_access.proofs.RunLaws.{checks-append, checks-more, made-more, runs-counted, runs-more, told-more, words-more}

-- ---- names

-- an access of the same thread through the same translation, on another line
declared-line : {layout : Layout} (a : Request) (kind : AccessKind) (line : ℕ) → accesses.IsDeclared layout a → line < line_limit → accesses.IsDeclared layout (record a { kind = kind; line = line })
declared-line a kind line o within = record {
  decl = o.decl;
  declared = o.declared;
  page_is = o.page_is;
  process_is = o.process_is;
  page = o.page;
  process = o.process;
  thread = o.thread;
  thread_declared = o.thread_declared;
  thread_of = o.thread_of;
  line = within;
}

-- the translation is one to the page
of-page : {layout : Layout} (store : Request) (page : Page) (slot : VSlot) → accesses.IsDeclared layout (load_of store page slot 0) → IsOf layout page slot
of-page store page slot o = subst (λ (x : Option TransDecl). IsSomeAnd x (λ (t : TransDecl). t.page ≡ page)) (sym o.declared) o.page_is

-- ---- what the command made by it

-- the access was answered by this entry, behind such that it made on its way
pub record IsWell (base : List Made) (view : View) (a : Request) (word : ℕ) (place : At) : Type 0 where
  pub page_is : place.page ≡ a.page
  pub alive : Saw view a.who (places.Process a.process) 0
  pub mask : ℕ
  pub good : ¬ IsBitSet mask a.line
  pub made : HasMadeBeside base (Precedes a.page a.slot a.line) view a.who a.page place.entry (what_of a mask word)

pub value-well : (base : List Made) (layout : Layout) (view : View) (a : Request) (word : ℕ) (place : At) → accesses.Answered base layout view a (access_answers.Value word place) → IsWell base view a word place
value-well base layout view a word place (kind, page, reached) = record { page_is = page; alive = reached.alive; mask = reached.mask; good = reached.good; made = reached.made }

-- the entry of a store has the word of its request, whatever is told of it
stored-same : (a : Request) (mask stored word : ℕ) → a.kind ≡ kinds.Store stored → what_of a mask stored ≡ what_of a mask word
stored-same a mask stored word kind =
    ap (λ (k : AccessKind). what_by k a.slot a.line (record { 0 = mask }) stored) kind ∙ sym (ap (λ (k : AccessKind). what_by k a.slot a.line (record { 0 = mask }) word) kind)

pub stored-well : (base : List Made) (layout : Layout) (view : View) (a : Request) (place : At) → accesses.Answered base layout view a (access_answers.Stored place) → IsWell base view a 0 place
stored-well base layout view a place (stored, kind, page, reached) = record {
  page_is = page;
  alive = reached.alive;
  mask = reached.mask;
  good = reached.good;
  made = subst (HasMadeBeside base (Precedes a.page a.slot a.line) view a.who a.page place.entry) (stored-same a reached.mask stored 0 kind) reached.made;
}

-- ---- one run more

-- the run of an access that is asked for
run-of : (layout : Layout) (view : View) (store : Request) (page : Page) (banks : Banks) (r : Run) (sub : Sub) {a : Request} → request_by store page sub ≡ Some a → IsAccessRun layout view a banks r → IsRun layout view store page banks r sub
run-of layout view store page banks r (subs.Load slot line) {a} is run = subst (λ (x : Request). IsAccessRun layout view x banks r) (sym (same_Some (load_of store page slot line) a is)) run
run-of layout view store page banks r (subs.Store slot line word) {a} is run = subst (λ (x : Request). IsAccessRun layout view x banks r) (sym (same_Some (store_of store slot line word) a is)) run
run-of layout view store page banks r (subs.Free slot) {a} is run = absurd (none-some a is)
run-of layout view store page banks r subs.Switched {a} is run = absurd (none-some a is)

module _ (base : List Made) (layout : Layout) (view : View) (c : Copying) (runs : List Run) (on : IsOnTurn view c.store.who) (unchecked : checks_in base ≡ 0) (has : HasRun layout view c runs) (since : List Made) (such : EachMember (IsBetween c.instruction.request) since)
    (fits : FitsBehind (base ++ (made_by runs ++ since)) (checks_by runs) layout view c.instruction) (request_is : request_by c.store c.page (sub_of c.cow) ≡ Some c.instruction.request) (at_is : c.at ≡ at.Access) (answer : InstructionAnswer)
    (over : c.instruction.at ≡ instruction_at.Over (Some answer)) (hand_is : hand_of view ≡ empty) (paid : view.owed.losses ≡ []) (made : checks_made c.instruction.request.who view ≡ length (checks_by runs ++ fits.checks)) (lets : LetsGoOn c.instruction.lines.told)
    (word : ℕ) (place : At) (well : IsWell (base ++ (made_by runs ++ since)) view c.instruction.request word place) where
  abbrev a : Request
  a = c.instruction.request

  own : (a.who ≡ c.store.who) × (a.process ≡ c.store.process)
  own = request-who c.store c.page (sub_of c.cow) request_is

  -- the entries of the access, from its beginning on
  abbrev latest : List Made
  latest = well.made.before ++ well.made.last ∷ []

  abbrev run : Run
  run = record { word = word; made = since ++ latest; checks = fits.checks; place = place }

  abbrev more : List Run
  more = runs ++ run ∷ []

  all-own : deeds a.who view ≡ base ++ (made_by runs ++ run.made)
  all-own = well.made.all ∙ append_assoc base (made_by runs ++ since) latest ∙ ap (λ (l : List Made). base ++ l) (append_assoc (made_by runs) since latest)

  all : HasMadeNoneBeside (base ++ made_by more) view c.store.who
  all = subst (λ (w : Who). deeds w view ≡ base ++ made_by more) own.0 (all-own ∙ ap (λ (l : List Made). base ++ l) (sym (made-more runs run)))

  counted : checks_in run.made ≡ length fits.checks
  counted =
      let whole : checks_in (base ++ (made_by runs ++ run.made)) ≡ length (checks_by runs ++ fits.checks) = sym (ap checks_in all-own) ∙ made in
      let first : checks_in (base ++ (made_by runs ++ run.made)) ≡ checks_in base + checks_in (made_by runs ++ run.made) = checks-append base (made_by runs ++ run.made) in
      let second : checks_in (made_by runs ++ run.made) ≡ checks_in (made_by runs) + checks_in run.made = checks-append (made_by runs) run.made in
      let before : checks_in (made_by runs) ≡ length (checks_by runs) = runs-counted layout view c.store c.page (begun c.cow) c.instruction.before.value runs has.are in
      let long : length (checks_by runs ++ fits.checks) ≡ length (checks_by runs) + length fits.checks = length-append (checks_by runs) fits.checks in
      omega (arith, unchecked, whole, first, second, before, long)

  is-run : IsAccessRun layout view a (left_by c.instruction.before.value (checks_by runs)) run
  is-run = record {
    before = since ++ well.made.before;
    last = well.made.last;
    made_is = sym (append_assoc since well.made.before (well.made.last ∷ []));
    such = each-append (IsBetween a) since well.made.before such (each-weaken (Precedes a.page a.slot a.line) (IsBetween a) well.made.before (λ m is. inl is) well.made.such);
    mask = well.mask;
    good = well.good;
    page_is = well.page_is;
    answers = well.made.at;
    checked = subst (λ (m : Mode). AreChecks layout view a origins.Access m (left_by c.instruction.before.value (checks_by runs)) fits.checks) has.user
        (subst (λ (o : Origin). AreChecks layout view a o c.instruction.mode (left_by c.instruction.before.value (checks_by runs)) fits.checks) has.origin fits.checked);
    counted = counted;
  }

  abbrev cow : Cow
  cow = told_by c.cow word

  abbrev next : Copying
  next = record c { cow = cow }

  cow-is : cow ≡ told_all (begun c.cow) (words_of more)
  cow-is = ap (λ (x : Cow). told_by x word) has.cow_is ∙ sym (ap (told_all (begun c.cow)) (words-more runs run) ∙ told-more (begun c.cow) (words_of runs) word)

  told-is : c.instruction.lines.told ≡ lines_of (checks_by more)
  told-is = fits.told_is ∙ ap lines_of (sym (checks-more runs run))

  -- whatever the access under way, and wherever the copy
  has-next : (request : Request) (instruction : InstructionAt) (x : CopyingAt) → HasRun layout view (record next { instruction = record c.instruction { request = request; at = instruction }; at = x }) more
  has-next request instruction x = record {
    sound = has.sound;
    names = has.names;
    own = has.own;
    kind = has.kind;
    twin = has.twin;
    line = has.line;
    user = has.user;
    origin = has.origin;
    three = has.three;
    cow_is = cow-is;
    are = runs-more layout view c.store c.page (begun c.cow) c.instruction.before.value runs run has.are
        (subst (λ (x : Cow). IsRun layout view c.store c.page (left_by c.instruction.before.value (checks_by runs)) run (sub_of x)) has.cow_is
        (run-of layout view c.store c.page (left_by c.instruction.before.value (checks_by runs)) run (sub_of c.cow) request_is is-run));
    lets = subst LetsGoOn told-is lets;
  }

  has-more : HasRun layout view next more
  has-more = has-next c.instruction.request c.instruction.at c.at

  banks-are : c.instruction.banks ≡ left_by c.instruction.before.value (checks_by more)
  banks-are = fits.banks_are ∙ ap (banks_at c.instruction.before.value (checks_by runs ++ fits.checks)) over ∙ ap (left_by c.instruction.before.value) (sym (checks-more runs run))

  going : IsGoing view c.store
  going = subst (λ (w : Who). Saw view w (places.Process c.store.process) 0) own.0 (ap-process well.alive)
    where
      ap-process : Saw view a.who (places.Process a.process) 0 → Saw view a.who (places.Process c.store.process) 0
      ap-process = subst (λ (p : Proc). Saw view a.who (places.Process p) 0) own.1

  all-counted : checks_in (base ++ made_by more) ≡ length (checks_by more)
  all-counted =
      let first : checks_in (base ++ made_by more) ≡ checks_in base + checks_in (made_by more) = checks-append base (made_by more) in
      let both : checks_in (made_by more) ≡ length (checks_by more) = runs-counted layout view c.store c.page (begun c.cow) c.instruction.before.value more has-more.are in
      omega (arith, unchecked, first, both)

  -- the access of this request comes
  begins : (request : Request) → request.who ≡ c.store.who → accesses.IsDeclared layout request → request_by c.store c.page (sub_of cow) ≡ Some request
      → FitsFrom base layout view (record next { instruction = instructions.again_with c.instruction request })
  begins request by names of = record {
    on_turn = on;
    unchecked = unchecked;
    runs = more;
    has = has-next request (instructions.first request) c.at;
    at = subst (FitsAt base layout view (record next { instruction = instructions.again_with c.instruction request }) more) (sym at_is) (record {
      since = [];
      such = λ i m there. absurd (none-some m there);
      instruction = begins-behind (checks_by more) layout view c.instruction request (subst (IsOnTurn view) (sym by) on) has.sound names fits.origin fits.three told-is banks-are lets hand_is paid
          (subst (λ (w : Who). deeds w view ≡ base ++ (made_by more ++ [])) (sym by) (all ∙ ap (λ (l : List Made). base ++ l) same)) (ap (λ (l : List Made). checks_in (base ++ l)) (sym same) ∙ all-counted);
      request_is = of;
      unwell = refl;
    });
  }
    where
      same : made_by more ≡ made_by more ++ []
      same = sym (append-nil (made_by more))

  -- the freeing comes
  frees : sub_of cow ≡ subs.Free cow.v → FitsFrom base layout view (record next { at = at.Free (evicts.begin c.store.who c.page (evictions.Free cow.v)) place })
  frees is = record {
    on_turn = on;
    unchecked = unchecked;
    runs = more;
    has = has-next c.instruction.request c.instruction.at (at.Free (evicts.begin c.store.who c.page (evictions.Free cow.v)) place);
    at = record {
      evict = record { on_turn = on; page = has.own.page; kind = of-page c.store c.page c.cow.v has.own; at = (hand_is, all) };
      evict_is = refl;
      sub_is = is;
      unanswered = refl;
      looks = tt;
      paid = paid;
      told = record { told_is = told-is; banks_are = banks-are };
      going = going;
      last = (runs, run, refl, refl);
    };
  }

  pub went-fits : FitsFrom base layout view (went c word place)
  went-fits = which (sub_of cow) refl (sub-own cow (words_of more) (told-of cow (words_of more) cow-is))
    where
      line-within : (line : ℕ) → (line < line_limit) ⊎ (line ≡ cow.line) → line < line_limit
      line-within line (inl within) = within
      line-within line (inr is) = subst (λ (n : ℕ). n < line_limit) (sym (is ∙ has.line)) has.names.line

      which : (s : Sub) → sub_of cow ≡ s → IsOwn cow s → FitsFrom base layout view (going_on next place s)
      which (subs.Load slot line) is (slot_is, within) = begins (load_of c.store c.page slot line) refl
          (subst (λ (x : VSlot). accesses.IsDeclared layout (load_of c.store c.page x line)) (sym slot_is) (declared-line (load_of c.store c.page c.cow.v 0) kinds.Load line has.own within)) (ap (request_by c.store c.page) is)
      which (subs.Store slot line w) is (slot_is, within) = begins (store_of c.store slot line w) refl
          (subst (λ (x : VSlot). accesses.IsDeclared layout (store_of c.store x line w)) (sym (slot_is ∙ has.twin)) (declared-line c.store (kinds.Store w) line has.names (line-within line within))) (ap (request_by c.store c.page) is)
      which (subs.Free slot) is slot_is = subst (λ (x : VSlot). FitsFrom base layout view (record next { at = at.Free (evicts.begin c.store.who c.page (evictions.Free x)) place })) (sym slot_is) (frees (is ∙ ap subs.Free slot_is))
      which subs.Switched is any = absurd (goes-on c.store c.page word c.cow request_is is)
