-- The assignments with which a function begins: the bytes of argument words go to their locations.
use Rattle.std.proofs.Common.{◌≡◌, ℕ, ◌+◌, ◌/◌, ◌%◌, ◌^◌, ◌<◌, ◌⊎◌, inl, inr, Bool, true, false, ◌==◌, List, [], ◌∷◌, ◌++◌, length, map, append_assoc, length-append, Some, refl, sym, ap, ◌∙◌, subst, true≢false, arith}
use Rattle.std.specs.Prelude.{◌&&◌, if◌then◌else◌}
use Rattle.std.specs.List.{list_all}
use Rattle.std.proofs.lemmas.Bool.{and_parts, or_left, or_right, eqb-true}
use Rattle.std.proofs.lemmas.List.Folds.{list_any-append}
use Rattle.dcc_run.specs.End.{is_over}
use Rattle.dcc_run.specs.System.{after}
use Rattle.dcc_run.proofs.RunLaws.{after-add}
use Rattle.dcc_ir.specs.declared.syntax.Loc.{Loc}
use Rattle.dcc_ir.specs.declared.syntax.Put.{Put}
use Rattle.dcc_ir.specs.declared.syntax.Put.TheVariants.{Memory, One, Two}
use Rattle.dcc_ir.specs.declared.syntax.Param.{Param}
use Rattle.dcc_ir.specs.Live.{is_among}
use Rattle.dcc_ir.specs.Location.{location_width, same_location, Values, with_value}
use Rattle.dcc_ir.specs.Run as inner_run
use Rattle.dcc_ir.specs.Tree as inner
use Rattle.dcc_ir.specs.WellFormed.{is_location, is_put}
use Rattle.dcc_ir.proofs.LocationLaws.{location_same, location_itself}
use Rattle.dcc_ir.proofs.PathLaws.{decided, or_false}
use Rattle.dcc_c.proofs.NameLaws.{same_bytes-equal, after_assignment-other, after_assignment-here}
use Rattle.dcc_c.specs.declared.syntax.Base.TheVariants.{Uchar, Uint}
use Rattle.dcc_c.specs.Run as text_run
use Rattle.dcc_c.specs.Run.{Continuation, runs, goes_on}
use Rattle.dcc_c.specs.Token.{same_bytes}
use Rattle.dcc_c.specs.Tree.{Word, Expr, Name, Stmt, Assign, Lines, no_lines, line, Function, Tree}
use Rattle.dcc_c.specs.Types.{plain}
use Rattle.dcc_c.specs.Value.{Value, value, converted, Scope, Unplaced, Binding, variable_in, after_assignment, ToVariable}
use Rattle.dcc_text.specs.Holding.{Locations, Alike, IsSpelling, Holds}
use Rattle.dcc_text.specs.Spelled.{Low, Exact, unsigned_type}
use Rattle.dcc_text.specs.Spelling.{Spelling}
use Rattle.dcc_text.specs.Stmts.{place_of}
use Rattle.dcc_text.proofs.Assignments.{in-more, held-after, assign-is}
use Rattle.dcc_text.proofs.Operands.{exact-text}
use Rattle.dcc_text.proofs.Parts.{low-part-text, high-part-text}
use Rattle.dcc_text.proofs.Readings.{as-number, name-value}
use Rattle.dcc_text.proofs.Sizes.{byte, word}
use Rattle.dcc_text.proofs.StmtSteps.{IsTaken, is-taken}
use Rattle.dcc_text.proofs.Ways.{Text, lowered}
use Rattle.dcc_variables.proofs.Lists.{among-left, among-right}
use Rattle.dcc_variables.specs.Functions.{parameter_name, function_spelling, low_byte, high_byte, opening, put_openings, openings_from, BeginsWith}
use Rattle.dcc_variables.specs.FunctionLaws.{has_name}
use Rattle.dcc_plan.specs.Calls.{byte_places, all_byte_places}
use Rattle.dcc_plan.proofs.HoldLaws.{holds-weaker}
use Rattle.dcc_plan.proofs.Bindings.{word_binding, IsWord, IsWordPut, AreWords}
use mathlib.Core.Path.{fun_ext}

-- What the bytes of a word are.

module _ (scope : Scope) (j n : ℕ) (found : variable_in scope.variables (parameter_name j) ≡ Some (word_binding j n)) (small : n < 65536) where
  word-text : Text scope Exact word n (Name (parameter_name j))
  word-text = exact-text scope word Uint n _ refl small (as-number scope Uint n _ (name-value scope (parameter_name j) (plain Uint) n found))

  pub low-taken : IsTaken scope 8 false (n % 256) (plain Uchar) (low_byte (Name (parameter_name j)))
  low-taken =
      let same : n / 1 % 256 ≡ n % 256 = omega arith in
      subst (λ k. IsTaken scope 8 false k (plain Uchar) (low_byte (Name (parameter_name j)))) same
      (is-taken scope Low byte false _ _ (low-part-text scope Low word byte n _ (omega arith) (lowered scope Exact word n _ word-text)) (λ settled one. absurd (true≢false (sym settled))) Uchar false refl)

  pub high-taken : IsTaken scope 8 false (n / 256) (plain Uchar) (high_byte (Name (parameter_name j)))
  high-taken =
      let same : n / 256 % 256 ≡ n / 256 = omega (arith, small) in
      subst (λ k. IsTaken scope 8 false k (plain Uchar) (high_byte (Name (parameter_name j)))) same
      (is-taken scope Low byte false _ _ (high-part-text scope Low word byte 8 n _ (omega arith) word-text) (λ settled one. absurd (true≢false (sym settled))) Uchar false refl)

-- A parameter stays where another variable takes a value.

pub stays : (variables : List Binding) (name other : Word) (v : Value) → same_bytes name other ≡ false → variable_in (after_assignment variables name v) other ≡ variable_in variables other
stays [] name other v apart = refl
stays (b ∷ variables) name other v apart = elim (decided (same_bytes b.name name)) [
  | inl here ↦
      (let one : same_bytes b.name other ≡ false = ap (λ w. same_bytes w other) (same_bytes-equal b.name name here) ∙ apart in
      ap (λ bs. variable_in bs other) (after_assignment-here b variables name v here)
      ∙ ap (λ c. if c then Some (record b { storage = Unplaced (converted b.type v).bits }) else variable_in variables other) one
      ∙ ap (λ c. if c then Some b else variable_in variables other) (sym one))
  | inr there ↦
      ap (λ bs. variable_in bs other) (after_assignment-other b variables name v there)
      ∙ ap (λ found. if same_bytes b.name other then Some b else found) (stays variables name other v apart)
]

words-stay : (variables : List Binding) (values : Values) (name : Word) (v : Value) → ((j : ℕ) → same_bytes name (parameter_name j) ≡ false) → (j : ℕ) (params : List Param) (ns : List ℕ)
    → AreWords variables values j params ns → AreWords (after_assignment variables name v) values j params ns
words-stay variables values name v apart j [] ns are = tt
words-stay variables values name v apart j (p ∷ params) [] are = tt
words-stay variables values name v apart j (p ∷ params) (n ∷ ns) are = (first p.put are.0, words-stay variables values name v apart (j + 1) params ns are.1)
  where
    first : (put : Put) → IsWordPut variables values j put n → IsWordPut (after_assignment variables name v) values j put n
    first Memory is = tt
    first (One location) is = tt
    first (Two low high) is =
        record { found = stays variables name (parameter_name j) v (apart j) ∙ is.found; small = is.small; first = is.first; second = is.second }

-- a value that a location has already changes nothing
same-value : (values : Values) (l : Loc) (n : ℕ) → values l ≡ n → with_value values l n ≡ values
same-value values l n is = fun_ext (λ x. by x (same_location x l) refl)
  where
    by : (x : Loc) (b : Bool) → same_location x l ≡ b → (if same_location x l then n else values x) ≡ values x
    by x true same = ap (λ b. if b then n else values x) same ∙ sym is ∙ ap values (sym (location_same x l same))
    by x false other = ap (λ b. if b then n else values x) other

-- what stands alone in a list
only-one : (l y : Loc) → is_among (l ∷ []) y ≡ true → same_location y l ≡ true
only-one l y there = elim (decided (same_location y l)) [
  | inl same ↦ same
  | inr other ↦ absurd (true≢false (sym (or_false (same_location y l) false other there)))
]

-- The locations that are held after a location has been opened, or after these have been that want it.

abbrev pub OrOne : Locations → Loc → Locations
OrOne Has l x = Has x ⊎ (same_location x l ≡ true)

abbrev pub OrOpened : (Loc → Bool) → List Loc → Locations → Locations
OrOpened opens ls Has x = Has x ⊎ (is_among ls x ≡ true) × (opens x ≡ true)

module _ (g : inner.Graph) (spelling : IsSpelling (function_spelling g)) (whole : Tree) (opens : Loc → Bool) (opens_named : (l : Loc) → opens l ≡ true → has_name g l)
    (AreAlike : Alike) (i : inner_run.State) (going : is_over i.end ≡ false) (f : Function) (fill : ℕ) (last : Continuation)
    (waiting : List text_run.Waiting) where
  abbrev s : Spelling
  s = function_spelling g

  -- The text has these lines before it, holds these locations, and has the words of these params.
  pub record Opening (Has : Locations) (lines : Lines) (j : ℕ) (params : List Param) (ns : List ℕ) (t : text_run.State) : Type 0 where
    pub comes_to : t.rest ≡ runs lines last
    pub holds : Holds s Has AreAlike i t
    pub words : AreWords t.frame.variables i.running.values j params ns
    pub named : (l : Loc) → Has l → has_name g l
    pub function : t.frame.function ≡ f
    pub filled : t.fill ≡ fill
    pub waits : t.waiting ≡ waiting

  -- a state that holds more than is wanted holds what is wanted
  weaken : (Has Wants : Locations) → ((l : Loc) → Wants l → Has l) → (lines : Lines) (j : ℕ) (params : List Param) (ns : List ℕ) (t : text_run.State) → Opening Has lines j params ns t
      → Opening Wants lines j params ns t
  weaken Has Wants all lines j params ns t x = record {
    comes_to = x.comes_to;
    holds = holds-weaker s Has Wants all AreAlike i t x.holds;
    words = x.words;
    named = λ l wants. x.named l (all l wants);
    function = x.function;
    filled = x.filled;
    waits = x.waits;
  }

  abbrev holds-at : (Has : Locations) (t : text_run.State) (rest : Continuation) → Holds s Has AreAlike i t → Holds s Has AreAlike i (goes_on rest t)
  holds-at Has t rest h = record { frame = h.frame; waiting = h.waiting; memory = h.memory; input = h.input; events = h.events; end = h.end }

  -- One assignment.
  module _ (Has : Locations) (stmt : Stmt) (at : ℕ) (lines : Lines) (j : ℕ) (params : List Param) (ns : List ℕ) (t : text_run.State) (x : Opening Has (line stmt at lines) j params ns t)
      (l : Loc) (named : has_name g l) (e : Expr) (is : stmt ≡ Assign (place_of s l) e) (n : ℕ) (holding : i.running.values l ≡ n) (width : location_width g.bits l ≡ 8)
      (apart : (k : ℕ) → same_bytes ((function_spelling g).name l) (parameter_name k) ≡ false) (taken : IsTaken (text_run.scope_of whole t) 8 false n (plain Uchar) e) where
    abbrev u : text_run.State
    u = goes_on (runs lines last) t

    abbrev v : Value
    v = value taken.of_type taken.k

    type-is : (function_spelling g).type l ≡ plain Uchar
    type-is = ap (λ w. plain (unsigned_type w)) width

    stepped : text_run.step whole t ≡ text_run.takes (ToVariable (s.name l)) v u
    stepped =
        ap (λ b. if b then t else text_run.step_at whole t.rest t) (ap is_over x.holds.end ∙ going)
        ∙ ap (λ rest. text_run.step_at whole rest t) x.comes_to
        ∙ ap (λ k. text_run.stmt_step whole k at u) is
        ∙ assign-is s whole Has AreAlike i u (holds-at Has t (runs lines last) x.holds) l named e taken.of_type taken.k at taken.is

    now-held : Holds s (OrOne Has l) AreAlike i (text_run.takes (ToVariable (s.name l)) v u)
    now-held =
        subst (λ values. Holds s (OrOne Has l) AreAlike (record i { running = record (i.running) { values = values } }) (text_run.takes (ToVariable (s.name l)) v u)) (same-value i.running.values l n holding)
        (held-after s whole Has AreAlike i u (holds-at Has t (runs lines last) x.holds) spelling (OrOne Has l) l named
        (λ y has other. elim has [ inl was ↦ was | inr same ↦ absurd (true≢false (sym same ∙ other)) ]) x.named v n
        (subst (λ w. (converted ((function_spelling g).type l) v).bits % 2 ^ w ≡ n) (sym width) (ap (λ type. (converted type v).bits % 2 ^ 8) type-is ∙ taken.low))
        (λ settled. absurd (true≢false (sym settled))))

    opened-names : (y : Loc) → OrOne Has l y → has_name g y
    opened-names y (inl was) = x.named y was
    opened-names y (inr same) = subst (has_name g) (sym (location_same y l same)) named

    pub open-one : Opening (OrOne Has l) lines j params ns (text_run.step whole t)
    open-one = record {
      comes_to = ap (λ k. k.rest) stepped;
      holds = subst (Holds s (OrOne Has l) AreAlike i) (sym stepped) now-held;
      words = subst (λ k. AreWords k.frame.variables i.running.values j params ns) (sym stepped)
          (words-stay t.frame.variables i.running.values (s.name l) v apart j params ns x.words);
      named = opened-names;
      function = ap (λ k. k.frame.function) stepped ∙ x.function;
      filled = ap (λ k. k.fill) stepped ∙ x.filled;
      waits = ap (λ k. k.waiting) stepped ∙ x.waits;
    }

  -- Where the location wants it.
  open-if : (Has : Locations) (wanted : Bool) (l : Loc) (e : Expr) (stmts : List Stmt) (lines others : Lines) (j : ℕ) (params : List Param) (ns : List ℕ) (t : text_run.State) (n : ℕ)
      → opens l ≡ wanted → i.running.values l ≡ n → location_width g.bits l ≡ 8 → ((k : ℕ) → same_bytes ((function_spelling g).name l) (parameter_name k) ≡ false) → Opening Has lines j params ns t
      → IsTaken (text_run.scope_of whole t) 8 false n (plain Uchar) e → BeginsWith (opening wanted s l e ++ stmts) lines others
      → (more : Lines) × BeginsWith stmts more others × Opening (OrOpened opens (l ∷ []) Has) more j params ns (after (text_run.step whole) (length (opening wanted s l e)) t)
  open-if Has false l e stmts lines others j params ns t n wants holding width apart x taken begins =
      (lines, begins, weaken Has (OrOpened opens (l ∷ []) Has) none lines j params ns t x)
    where
      none : (y : Loc) → OrOpened opens (l ∷ []) Has y → Has y
      none y (inl was) = was
      none y (inr (there, wanted)) = absurd (true≢false (sym wanted ∙ ap opens (location_same y l (only-one l y there)) ∙ wants))
  open-if Has true l e stmts no_lines others j params ns t n wants holding width apart x taken begins = absurd begins
  open-if Has true l e stmts (line first at lines) others j params ns t n wants holding width apart x taken begins =
      let y = open-one Has first at lines j params ns t x l (opens_named l wants) e begins.0 n holding width apart taken in
      (lines, begins.1, weaken (OrOne Has l) (OrOpened opens (l ∷ []) Has) one lines j params ns (text_run.step whole t) y)
    where
      one : (y : Loc) → OrOpened opens (l ∷ []) Has y → OrOne Has l y
      one y (inl was) = inl was
      one y (inr (there, wanted)) = inr (only-one l y there)

  -- the byte of a location is the one that is looked for, in a state with its word
  word-there : (t : text_run.State) (j n : ℕ) → variable_in t.frame.variables (parameter_name j) ≡ Some (word_binding j n)
      → variable_in (text_run.scope_of whole t).variables (parameter_name j) ≡ Some (word_binding j n)
  word-there t j n found = in-more t.frame.variables (map text_run.global_binding whole.globals) (parameter_name j) (word_binding j n) found

  -- what opens nothing
  nothing-more : (Has : Locations) (lines others : Lines) (stmts : List Stmt) (j : ℕ) (params : List Param) (ns : List ℕ) (t : text_run.State) → Opening Has lines j params ns t
      → BeginsWith stmts lines others → (more : Lines) × BeginsWith stmts more others × Opening (OrOpened opens [] Has) more j params ns t
  nothing-more Has lines others stmts j params ns t x begins = (lines, begins, weaken Has (OrOpened opens [] Has) none lines j params ns t x)
    where
      none : (l : Loc) → OrOpened opens [] Has l → Has l
      none l (inl was) = was
      none l (inr (there, wanted)) = absurd (true≢false (sym there))

  -- no name of these locations is a parameter's
  abbrev pub AreApart : List Loc → Type 0
  AreApart ls = (l : Loc) → is_among ls l ≡ true → (k : ℕ) → same_bytes ((function_spelling g).name l) (parameter_name k) ≡ false

  -- The bytes of one argument.
  open-put : (Has : Locations) (p : Param) (put : Put) → p.put ≡ put → (stmts : List Stmt) (lines others : Lines) (j : ℕ) (params : List Param) (n : ℕ) (ns : List ℕ) (t : text_run.State)
      → is_put g.bits put ≡ true → AreApart (byte_places put) → Opening Has lines j (p ∷ params) (n ∷ ns) t → BeginsWith (put_openings s opens (parameter_name j) put ++ stmts) lines others
      → (more : Lines) × BeginsWith stmts more others
      × Opening (OrOpened opens (byte_places put) Has) more j (p ∷ params) (n ∷ ns) (after (text_run.step whole) (length (put_openings s opens (parameter_name j) put)) t)
  open-put Has p Memory is stmts lines others j params n ns t formed apart x begins = nothing-more Has lines others stmts j (p ∷ params) (n ∷ ns) t x begins
  open-put Has p (One location) is stmts lines others j params n ns t formed apart x begins = nothing-more Has lines others stmts j (p ∷ params) (n ∷ ns) t x begins
  open-put Has p (Two low high) is stmts lines others j params n ns t formed apart x begins =
      let (three, high_width) = and_parts (is_location g.bits low && is_location g.bits high && (location_width g.bits low == 8)) (location_width g.bits high == 8) formed in
      let low_width = (and_parts (is_location g.bits low && is_location g.bits high) (location_width g.bits low == 8) three).1 in
      let first_ones = opening (opens low) s low (low_byte (Name (parameter_name j))) in
      let second_ones = opening (opens high) s high (high_byte (Name (parameter_name j))) in
      let w = word-of t x in
      let (between, begins_then, y) = open-if Has (opens low) low (low_byte (Name (parameter_name j))) (second_ones ++ stmts) lines others j (p ∷ params) (n ∷ ns) t (n % 256) refl w.first
      (eqb-true (location_width g.bits low) 8 low_width) (apart low (or_left (same_location low low) (is_among (high ∷ []) low) (location_itself low))) x
      (low-taken (text_run.scope_of whole t) j n (word-there t j n w.found) w.small) (subst (λ xs. BeginsWith xs lines others) (append_assoc first_ones second_ones stmts) begins) in
      let u = after (text_run.step whole) (length first_ones) t in
      let v = word-of u y in
      let (more, begins_last, z) = open-if (OrOpened opens (low ∷ []) Has) (opens high) high (high_byte (Name (parameter_name j))) stmts between others j (p ∷ params) (n ∷ ns) u (n / 256) refl v.second
      (eqb-true (location_width g.bits high) 8 high_width)
      (apart high (or_right (same_location high low) (is_among (high ∷ []) high) (or_left (same_location high high) false (location_itself high)))) y
      (high-taken (text_run.scope_of whole u) j n (word-there u j n v.found) v.small) begins_then in (
        more,
        begins_last,
        subst (Opening (OrOpened opens (low ∷ high ∷ []) Has) more j (p ∷ params) (n ∷ ns))
            (sym (after-add (text_run.step whole) (length first_ones) (length second_ones) t) ∙ ap (λ k. after (text_run.step whole) k t) (sym (length-append first_ones second_ones)))
            (weaken (OrOpened opens (high ∷ []) (OrOpened opens (low ∷ []) Has)) (OrOpened opens (low ∷ high ∷ []) Has) both more j (p ∷ params) (n ∷ ns) _ z),
      )
    where
      word-of : {Has : Locations} {lines : Lines} (t : text_run.State) → Opening Has lines j (p ∷ params) (n ∷ ns) t → IsWord t.frame.variables i.running.values j low high n
      word-of t x = subst (λ k. IsWordPut t.frame.variables i.running.values j k n) is x.words.0

      both : (l : Loc) → OrOpened opens (low ∷ high ∷ []) Has l → OrOpened opens (high ∷ []) (OrOpened opens (low ∷ []) Has) l
      both l (inl was) = inl (inl was)
      both l (inr (there, wanted)) = elim (decided (same_location l low)) [
        | inl same ↦ inl (inr (or_left (same_location l low) false same, wanted))
        | inr other ↦ inr (or_false (same_location l low) (is_among (high ∷ []) l) other there, wanted)
      ]

  -- All of them.
  pub open-all : (Has : Locations) (j : ℕ) (params : List Param) (ns : List ℕ) (lines others : Lines) (t : text_run.State) → length params ≡ length ns
      → list_all (λ p. is_put g.bits p.put) params ≡ true → AreApart (all_byte_places params) → Opening Has lines j params ns t → BeginsWith (openings_from s opens j params) lines others
      → Opening (OrOpened opens (all_byte_places params) Has) others 0 [] [] (after (text_run.step whole) (length (openings_from s opens j params)) t)
  open-all Has j [] ns lines others t long formed apart x begins =
      let y = (nothing-more Has lines others [] j [] ns t x begins).2 in
      record { comes_to = x.comes_to ∙ ap (λ ls. runs ls last) begins; holds = y.holds; words = tt; named = y.named; function = y.function; filled = y.filled; waits = y.waits }
  open-all Has j (p ∷ params) [] lines others t long formed apart x begins = absurd (omega (arith, long))
  open-all Has j (p ∷ params) (n ∷ ns) lines others t long formed apart x begins =
      let (first, rest) = and_parts (is_put g.bits p.put) (list_all (λ q. is_put g.bits q.put) params) formed in
      let firsts = put_openings s opens (parameter_name j) p.put in
      let laters = openings_from s opens (j + 1) params in
      let (more, begins_then, y) = open-put Has p p.put refl laters lines others j params n ns t first (λ l there. apart l (among-left (byte_places p.put) (all_byte_places params) l there)) x begins in
      let u = after (text_run.step whole) (length firsts) t in
      let z = open-all (OrOpened opens (byte_places p.put) Has) (j + 1) params ns more others u (omega (arith, long)) rest
      (λ l there. apart l (among-right (byte_places p.put) (all_byte_places params) l there))
      (record { comes_to = y.comes_to; holds = y.holds; words = y.words.1; named = y.named; function = y.function; filled = y.filled; waits = y.waits }) begins_then in
      subst (Opening (OrOpened opens (all_byte_places (p ∷ params)) Has) others 0 [] [])
      (sym (after-add (text_run.step whole) (length firsts) (length laters) t) ∙ ap (λ k. after (text_run.step whole) k t) (sym (length-append firsts laters)))
      (weaken (OrOpened opens (all_byte_places params) (OrOpened opens (byte_places p.put) Has)) (OrOpened opens (all_byte_places (p ∷ params)) Has) both others 0 [] [] _ z)
    where
      both : (l : Loc) → OrOpened opens (all_byte_places (p ∷ params)) Has l → OrOpened opens (all_byte_places params) (OrOpened opens (byte_places p.put) Has) l
      both l (inl was) = inl (inl was)
      both l (inr (there, wanted)) = elim (decided (is_among (byte_places p.put) l)) [
        | inl here ↦ inl (inr (here, wanted))
        | inr away ↦ inr (
          or_false (is_among (byte_places p.put) l) (is_among (all_byte_places params) l) away
              (sym (list_any-append (same_location l) (byte_places p.put) (all_byte_places params)) ∙ there),
          wanted,
        )
      ]
