-- One graph in the place of another: the theorem on passes where all other graphs stay.
use Rattle.std.proofs.Common.{◌≡◌, ℕ, zero, suc, Bool, true, false, ◌||◌, List, [], ◌∷◌, Option, Some, None, refl, sym, ap, ◌∙◌, subst, true≢false, take, slice_get, Contains, eqb-true, eq-eqb}
use Rattle.std.specs.Prelude.{if◌then◌else◌, ◌==◌, option_map, All}
use Rattle.std.specs.List.{list_any}
use Rattle.std.proofs.lemmas.List.Elements.{All-nil, All-cons}
use Rattle.dcc_run.specs.End.{is_over}
use Rattle.dcc_ir.specs.declared.syntax.Loc.{Loc}
use Rattle.dcc_ir.specs.Tree.{Expr, Stmt, Call, Exit, Goto, If, Switch, Ret, Stop, Block, Graph, Program}
use Rattle.dcc_ir.specs.Location.{Values}
use Rattle.dcc_ir.specs.Use.{reads_of, exprs_of}
use Rattle.dcc_ir.specs.WellFormed.{IsGraph, IsProgram}
use Rattle.dcc_ir.specs.Flow.{Flow, flow_of, graph_or_none, flow_at}
use Rattle.dcc_ir.specs.Form.{BlockStays, GraphStays}
use Rattle.dcc_ir.specs.Run.{State, Activation, passing, stmt_step, value_in, graph_at}
use Rattle.dcc_ir.specs.Local.{Point, start_of, next_of, after_calls, Halt, Over, Calls, Jumps, Returns, switch_halt, exit_halt, local_run, halt_of}
use Rattle.dcc_ir.specs.Replaced.{with_graph, IsKeptWith}
use Rattle.dcc_ir.specs.Passes.{Pass, with_values, EndAlike, Stands, AreTogether, Meet, GoesOn, BlocksStay, BeginAlike, OwesBegin, OwesGo}
use Rattle.dcc_ir.proofs.GraphLaws.{found_entry, any_at}
use Rattle.dcc_ir.proofs.ReachedLaws.{found_contained}
use Rattle.dcc_ir.proofs.ZipLaws.{zip_back}
use Rattle.dcc_ir.proofs.passes.LocalLaws.{some_same, is_running, Frame, stmt-frame}
use Rattle.dcc_ir.proofs.passes.AgreeLaws.{AgreeOn, StillOn, ReadsIn, value-on, values-on, stuck-on, weaker-on, stmt-agrees}
use Rattle.dcc_ir.proofs.passes.Theorem.{keeps_runs}
use Rattle.dcc_ir.proofs.passes.SameLaws.{Everywhere, with_values-same, taken_same}
use Rattle.dcc_ir.proofs.passes.FormLaws.{changed_at, same_entries, one_graph, swapped_formed, kept_swapped}
use Rattle.dcc_passes.specs.Replaced.{StandsFor}
use Rattle.dcc_passes.specs.OneGraph.{Invariant, one_pass, FitsInPlace, BeginsIn, GoesIn}

-- The pass of a whole program: what is told of one graph, and elsewhere nothing changes.

abbrev place_in : Bool → (ℕ → ℕ) → ℕ → ℕ
place_in true place = place
place_in false place = λ k. k

abbrev holds_in : Bool → Invariant → Invariant
holds_in true inv = inv
holds_in false inv = λ point v v'. Everywhere v v'

abbrev pass_of : ℕ → (ℕ → ℕ) → Invariant → Pass
pass_of entry place inv = record {
  place = λ n. place_in (n == entry) place;
  Enter = λ n a a'. a' ≡ a;
  Leave = λ n a r r'. r' ≡ r;
  Inv = λ a point v v'. holds_in (point.entry == entry) inv point v v';
}

any_of : {A : Type 0} (P : A → Type 0) (xs : List A) → ((x : A) → P x) → All P xs
any_of P [] h = All-nil P
any_of P (x ∷ xs) h = All-cons P x xs (h x) (any_of P xs h)

-- In the one graph.

module _ (entry : ℕ) (place : ℕ → ℕ) (inv : Invariant) (a : List ℕ) (point : Point) (here : (point.entry == entry) ≡ true) where
  abbrev whole : Pass
  whole = pass_of entry place inv

  abbrev own : Pass
  own = one_pass place inv

  placed_here : (k : ℕ) → place k ≡ whole.place point.entry k
  placed_here k = ap (λ b. place_in b place k) (sym here)

  holds_here : (q : Point) (v v' : Values) → q.entry ≡ point.entry → inv q v v' → whole.Inv a q v v'
  holds_here q v v' e h = subst (λ b. holds_in b inv q v v') (sym (ap (λ n. n == entry) e ∙ here)) h

  together_here : (p q : Program) (s t : State) → AreTogether p q whole a point s t → AreTogether p q own a point s t
  together_here p q s t h = record {
    first = subst (λ k. Stands p (record point { place = k }) s) (sym (placed_here point.place)) h.first;
    second = h.second;
    outside = h.outside;
    arguments_fit = h.arguments_fit;
    holds = subst (λ b. holds_in b inv point s.running.values t.running.values) here h.holds;
  }

  meets_here : (dropped : ℕ) (halt halt' : Halt) → Meet own a point dropped halt halt' → Meet whole a point dropped halt halt'
  meets_here dropped (Over s) (Over t) h = h
  meets_here dropped (Calls call s) (Calls other t) h = record {
    at_once = h.at_once;
    entry = h.entry;
    depth = h.depth;
    outside = h.outside;
    enters = h.enters;
    resumes = λ r r' fit fit' leaves. holds_here (next_of point) _ _ refl (h.resumes r r' fit fit' leaves);
  }
  meets_here dropped (Jumps k s) (Jumps other t) h = record {
    stands = h.stands ∙ placed_here other;
    outside = h.outside;
    holds = holds_here (record { entry = point.entry; place = other; calls = 0 }) _ _ refl h.holds;
  }
  meets_here dropped (Returns r s) (Returns r' t) h = record { outside = h.outside; leaves = h.leaves }
  meets_here dropped (Over s) (Calls other t) h = h
  meets_here dropped (Over s) (Jumps other t) h = h
  meets_here dropped (Over s) (Returns r' t) h = h
  meets_here dropped (Calls call s) (Over t) h = h
  meets_here dropped (Calls call s) (Jumps other t) h = h
  meets_here dropped (Calls call s) (Returns r' t) h = h
  meets_here dropped (Jumps k s) (Over t) h = h
  meets_here dropped (Jumps k s) (Calls other t) h = h
  meets_here dropped (Jumps k s) (Returns r' t) h = h
  meets_here dropped (Returns r s) (Over t) h = h
  meets_here dropped (Returns r s) (Calls other t) h = h
  meets_here dropped (Returns r s) (Jumps other t) h = h

-- what holds wherever a run goes on to holds in another way too
goes_weaker : (flow : Flow) (n : ℕ) (P Q : Halt → Type 0) → ((halt : Halt) → P halt → Q halt) → (halt : Halt) → GoesOn flow n P halt → GoesOn flow n Q halt
goes_weaker flow zero P Q to halt h = to halt h
goes_weaker flow (suc n) P Q to (Jumps place s) h = (h.0, h.1, h.2, goes_weaker flow n P Q to _ h.3)
goes_weaker flow (suc n) P Q to (Over s) h = h
goes_weaker flow (suc n) P Q to (Calls call s) h = h
goes_weaker flow (suc n) P Q to (Returns r s) h = h

-- In the other graphs all locations hold the same.

abbrev All_same : Loc → Type 0
All_same l = Unit {0}

reads_same : (e : Expr) → ReadsIn All_same e
reads_same e = any_of All_same (reads_of e) (λ l. tt)

module _ (entry : ℕ) (place : ℕ → ℕ) (inv : Invariant) (a : List ℕ) (point : Point) (other : (point.entry == entry) ≡ false) where
  abbrev pass : Pass
  pass = pass_of entry place inv

  holds_same : (q : Point) → q.entry ≡ point.entry → (v v' : Values) → Everywhere v v' → pass.Inv a q v v'
  holds_same q e v v' same = subst (λ b. holds_in b inv q v v') (sym (ap (λ n. n == entry) e ∙ other)) same

  same_jumps : (k k' : ℕ) (s t : State) → k' ≡ k → AgreeOn All_same s t → Meet pass a point 0 (Jumps k s) (Jumps k' t)
  same_jumps k k' s t same h = record {
    stands = sym same ∙ ap (λ b. place_in b place k') (sym other);
    outside = h.outside;
    holds = holds_same _ refl _ _ (λ l. h.values l tt);
  }

  same_exit : (exit : Exit) (s t : State) → AgreeOn All_same s t → Meet pass a point 0 (exit_halt exit s) (exit_halt exit t)
  same_exit (Goto k) s t h = same_jumps k k s t refl h
  same_exit (If test one two) s t h = same_jumps _ _ s t (ap (λ n. if n == 1 then one else two) (value-on All_same s t h test (reads_same test))) h
  same_exit (Switch e places) s t h =
      subst (λ n. Meet pass a point 0 (switch_halt (slice_get places (value_in s e)) s) (switch_halt (slice_get places n) t))
      (sym (value-on All_same s t h e (reads_same e))) (go (slice_get places (value_in s e)))
    where
      go : (k : Option ℕ) → Meet pass a point 0 (switch_halt k s) (switch_halt k t)
      go (Some k) = same_jumps k k s t refl h
      go None = let over = stuck-on All_same s t h in record { end = over.end; events = over.outside.events }
  same_exit (Ret values) s t h = record { outside = h.outside; leaves = values-on All_same s t h values (any_of (ReadsIn All_same) values reads_same) }
  same_exit Stop s t h = let over = stuck-on All_same s t h in record { end = over.end; events = over.outside.events }

  both_go : (s t : State) (halt halt' : Halt) (b : Bool) → EndAlike s t → (is_over s.end ≡ false → Meet pass a point 0 halt halt') → is_over s.end ≡ b →
      Meet pass a point 0 (if b then Over s else halt) (if b then Over t else halt')
  both_go s t halt halt' true over on e = over
  both_go s t halt halt' false over on e = on e

  same_run : (stmts : List Stmt) (s t : State) → t.running.block.exit ≡ s.running.block.exit → AgreeOn All_same s t → Meet pass a point 0 (local_run stmts s) (local_run stmts t)
  same_run [] s t exits h = subst (λ exit. Meet pass a point 0 (exit_halt s.running.block.exit s) (exit_halt exit t)) (sym exits) (same_exit s.running.block.exit s t h)
  same_run (Call results callee arguments depth ∷ rest) s t exits h = record {
    at_once = refl;
    entry = refl;
    depth = refl;
    outside = record { memory = h.outside.memory; input = h.outside.input; events = h.outside.events; base = h.outside.base };
    enters = values-on All_same s t h arguments (any_of (ReadsIn All_same) arguments reads_same);
    resumes = λ r r' fit fit' leaves. holds_same (next_of point) refl _ _
        (subst (λ r'. Everywhere (with_values s.running.values results r) (with_values t.running.values results r')) (sym leaves)
        (with_values-same s.running.values t.running.values results r (λ l. h.values l tt)));
  }
  same_run (stmt ∷ rest) s t exits h =
      let next = stmt-agrees All_same stmt s t refl (any_of (ReadsIn All_same) (exprs_of stmt) reads_same) h in
      let exits' = ap (λ (f : Frame). f.block.exit) (stmt-frame stmt t) ∙ exits ∙ sym (ap (λ (f : Frame). f.block.exit) (stmt-frame stmt s)) in
      let on = λ (e : is_over (stmt_step stmt s).end ≡ false). same_run rest (stmt_step stmt s) (stmt_step stmt t) exits'
      (weaker-on (StillOn All_same (stmt_step stmt s)) All_same (stmt_step stmt s) (stmt_step stmt t) (λ l m. (e, m)) next) in
      subst (λ b. Meet pass a point 0 (if is_over (stmt_step stmt s).end then Over (stmt_step stmt s) else local_run rest (stmt_step stmt s))
      (if b then Over (stmt_step stmt t) else local_run rest (stmt_step stmt t)))
      (sym (ap is_over next.end))
      (both_go (stmt_step stmt s) (stmt_step stmt t) (local_run rest (stmt_step stmt s)) (local_run rest (stmt_step stmt t)) (is_over (stmt_step stmt s).end)
      (record { end = next.end; events = next.outside.events }) on refl)

-- The whole program.

module _ (place : ℕ → ℕ) (inv : Invariant) (before after : Graph) (fits : FitsInPlace place before after) (begins : BeginsIn before after inv)
    (goes : GoesIn place before after inv) (p : Program) (formed : IsProgram p) (known : Contains p.graphs before) where
  abbrev next : Program
  next = with_graph after p

  abbrev change : Graph → Graph
  change g = if g.entry == after.entry then after else g

  entry_stays : (g : Graph) → Contains p.graphs g → (change g).entry ≡ g.entry
  entry_stays g c = go (g.entry == after.entry) refl
    where
      go : (b : Bool) → (g.entry == after.entry) ≡ b → (if b then after else g).entry ≡ g.entry
      go true e = sym (eqb-true g.entry after.entry e)
      go false e = refl

  abbrev the_pass : Pass
  the_pass = pass_of before.entry place inv

  there_is : (n : ℕ) (g g' : Graph) → graph_at p.graphs n ≡ Some g → graph_at next.graphs n ≡ Some g' → g' ≡ change g
  there_is n g g' found found' =
      some_same g' (change g) (sym found' ∙ changed_at change p.graphs n entry_stays ∙ ap (option_map change) found)

  known_at : (n : ℕ) (g : Graph) → graph_at p.graphs n ≡ Some g → Contains p.graphs g
  known_at n g found = found_contained (λ x. x.entry == n) p.graphs g found

  -- the graph with that entry, and the one in its place
  data Which (g g' : Graph) : Type 0 where
    the_one : (g.entry == before.entry) ≡ true → g ≡ before → g' ≡ after → Which g g'
    another : (g.entry == before.entry) ≡ false → g' ≡ g → Which g g'

  which : (n : ℕ) (g g' : Graph) → graph_at p.graphs n ≡ Some g → graph_at next.graphs n ≡ Some g' → Which g g'
  which n g g' found found' = go (g.entry == after.entry) refl
    where
      go : (b : Bool) → (g.entry == after.entry) ≡ b → Which g g'
      go true e =
          let same : g.entry ≡ before.entry = eqb-true g.entry after.entry e ∙ fits.entry in
          the_one (eq-eqb g.entry before.entry same) (sym (one_graph p.graphs before g formed.entries known (known_at n g found) (sym same)))
          (there_is n g g' found found' ∙ ap (λ b. if b then after else g) e)
      go false e =
          another (ap (λ m. g.entry == m) (sym fits.entry) ∙ e) (there_is n g g' found found' ∙ ap (λ b. if b then after else g) e)

  goes_on : OwesGo p next the_pass
  goes_on a point s t together =
      let found = together.first.at.graph in
      let found' = together.second.at.graph in
      go (found_entry p.graphs point.entry s.running.graph found) found' (which point.entry s.running.graph t.running.graph found found')
    where
      go : s.running.graph.entry ≡ point.entry → graph_at next.graphs point.entry ≡ Some t.running.graph → Which s.running.graph t.running.graph
          → (dropped : ℕ) × GoesOn (flow_at next point.entry) dropped (λ halt. Meet the_pass a point dropped halt (halt_of t)) (halt_of s)
      go entry found' (the_one e g g') =
          let here : (point.entry == before.entry) ≡ true = ap (λ n. n == before.entry) (sym entry) ∙ e in
          let own = together_here before.entry place inv a point here p next s t together in
          let flow : flow_of after ≡ flow_at next point.entry = ap flow_of (sym g') ∙ ap (λ o. flow_of (graph_or_none o)) (sym found') in
          let goes_there = goes p next formed (fits.formed p formed known) a point s t (eqb-true point.entry before.entry here) own g g' in (
            goes_there.0,
            goes_weaker (flow_at next point.entry) goes_there.0 (λ halt. Meet (one_pass place inv) a point goes_there.0 halt (halt_of t))
                (λ halt. Meet the_pass a point goes_there.0 halt (halt_of t)) (λ halt h. meets_here before.entry place inv a point here goes_there.0 halt (halt_of t) h) (halt_of s)
                (subst (λ flow. GoesOn flow goes_there.0 (λ halt. Meet (one_pass place inv) a point goes_there.0 halt (halt_of t)) (halt_of s)) flow goes_there.1),
          )
      go entry found' (another e same) =
          let there : (point.entry == before.entry) ≡ false = ap (λ n. n == before.entry) (sym entry) ∙ e in
          let first : slice_get s.running.graph.blocks point.place ≡ Some s.running.block =
          subst (λ b. slice_get s.running.graph.blocks (place_in b place point.place) ≡ Some s.running.block) there together.first.at.block in
          let blocks : t.running.block ≡ s.running.block = some_same t.running.block s.running.block
          (sym together.second.at.block ∙ ap (λ (g : Graph). slice_get g.blocks point.place) same ∙ first) in
          let rests : t.running.rest ≡ s.running.rest = together.second.at.rest ∙ ap (λ (b : Block). after_calls point.calls b.stmts) blocks ∙ sym together.first.at.rest in (
            0,
            subst (λ rest. Meet the_pass a point 0 (halt_of s) (local_run rest t)) (sym rests)
                (same_run before.entry place inv a point there s.running.rest s t (ap (λ (b : Block). b.exit) blocks) (record {
                  values = λ l _. subst (λ b. holds_in b inv point s.running.values t.running.values) there together.holds l;
                  outside = together.outside;
                  end = is_running t.end together.second.running ∙ sym (is_running s.end together.first.running);
                  bits = ap (λ (g : Graph). g.bits) same;
                  entry = ap (λ (g : Graph). g.entry) same;
                })),
          )

  begins_all : (n : ℕ) (old new : Graph) → graph_at p.graphs n ≡ Some old → graph_at next.graphs n ≡ Some new → OwesBegin the_pass n old new
  begins_all n old new found found' = go (which n old new found found')
    where
      entry : old.entry ≡ n
      entry = found_entry p.graphs n old found

      go : Which old new → OwesBegin the_pass n old new
      go (the_one e g g') = subst (λ x. OwesBegin the_pass n x new) (sym g) (subst (OwesBegin the_pass n before) (sym g') (record {
        begin = λ fill base a a' s t small fit fit' enters outside opened opened'.
            let n_is : n ≡ before.entry = sym entry ∙ ap (λ (x : Graph). x.entry) g in
            let b = begins fill base a s t fit outside opened opened' in
            subst (λ a'. BeginAlike the_pass n a (passing 0 before.params a s) (passing 0 after.params a' t)) (sym enters)
            (subst (λ m. BeginAlike the_pass m a (passing 0 before.params a s) (passing 0 after.params a t)) (sym n_is) (record {
              memory = b.0;
              holds = subst (λ c. holds_in c inv (start_of before.entry) (passing 0 before.params a s).running.values (passing 0 after.params a t).running.values)
                  (sym (eq-eqb before.entry before.entry refl)) b.1;
            }));
      }))
      go (another e same) = subst (OwesBegin the_pass n old) (sym same) (record {
        begin = λ fill base a a' s t small fit fit' enters outside opened opened'.
            let o = taken_same 0 old.params a s t (record {
              values = λ l. ap (λ (x : Activation). x.values l) opened' ∙ sym (ap (λ (x : Activation). x.values l) opened);
              memory = outside.memory;
              base = outside.base;
            }) in
            subst (λ a'. BeginAlike the_pass n a (passing 0 old.params a s) (passing 0 old.params a' t)) (sym enters)
            (record {
              memory = o.memory;
              holds = subst (λ b. holds_in b inv (start_of n) (passing 0 old.params a s).running.values (passing 0 old.params a t).running.values)
                  (sym (ap (λ m. m == before.entry) (sym entry) ∙ e)) o.values;
            });
      })

  blocks_all : (n : ℕ) (old new : Graph) → graph_at p.graphs n ≡ Some old → graph_at next.graphs n ≡ Some new → BlocksStay old new (the_pass.place n)
  blocks_all n old new found found' = go (which n old new found found')
    where
      entry : old.entry ≡ n
      entry = found_entry p.graphs n old found

      go : Which old new → BlocksStay old new (the_pass.place n)
      go (the_one e g g') =
          let here : true ≡ (n == before.entry) = sym e ∙ ap (λ m. m == before.entry) entry in
          subst (λ b. BlocksStay old new (place_in b place)) here
          (subst (λ x. BlocksStay x new place) (sym g) (subst (λ y. BlocksStay before y place) (sym g') fits.blocks))
      go (another e same) =
          let there : false ≡ (n == before.entry) = sym e ∙ ap (λ m. m == before.entry) entry in
          subst (λ b. BlocksStay old new (place_in b place)) there
          (subst (λ y. BlocksStay old y (λ k. k)) (sym same) (record { first = refl; stays = λ k block placed. (block, placed, refl) }))

  -- The graph may stand in the place of the other.
  pub may-stand : IsKeptWith after p
  may-stand = fits.kept p formed known (keeps_runs p next the_pass (record {
    before = formed;
    after = fits.formed p formed known;
    image = refl;
    lo = refl;
    hi = refl;
    entries = same_entries change p.graphs entry_stays;
    blocks = blocks_all;
    begin = begins_all;
    go = goes_on;
    start = any_of (λ (g : Graph). ◌≡◌ {A = List ℕ} [] []) (take 1 p.graphs) (λ g. refl);
  }))

-- what a block that passes a test gives, each place with such a block gives
some-block : (P : Type 0) (f : Block → Bool) (blocks : List Block) → ((k : ℕ) (b : Block) → slice_get blocks k ≡ Some b → f b ≡ true → P) → list_any f blocks ≡ true → P
some-block P f [] each has = absurd (true≢false (sym has))
some-block P f (b ∷ blocks) each has = one (f b) refl has (some-block P f blocks (λ k x found. each (suc k) x found))
  where
    one : (c : Bool) → f b ≡ c → (c || list_any f blocks) ≡ true → (list_any f blocks ≡ true → P) → P
    one true is has later = each 0 b refl is
    one false is has later = later has

-- the addresses of a graph that fits are the other's
fitting-addresses : (place : ℕ → ℕ) (before after : Graph) → BlocksStay before after place → (at : ℕ) → (flow_of after).has at ≡ true → (flow_of before).has at ≡ true
fitting-addresses place before after stays at has =
    some-block ((flow_of before).has at ≡ true) (λ block. block.at == at) after.blocks (λ k b found is.
    let back = stays.stays k b found in
    any_at (λ block. block.at == at) before.blocks (place k) back.0 back.1 (ap (λ n. n == at) back.2 ∙ is)) has

pub one-stands : (place : ℕ → ℕ) (inv : Invariant) (before after : Graph) → FitsInPlace place before after → BeginsIn before after inv → GoesIn place before after inv → StandsFor before after
one-stands place inv before after fits begins goes = record {
  entry = fits.entry;
  addresses = fitting-addresses place before after fits.blocks;
  formed = fits.formed;
  keeps = λ p formed known. (may-stand place inv before after fits begins goes p formed known).keeps.keeps;
}

-- Forms that stay.

pub form-fits : (before after : Graph) → GraphStays before after → IsGraph after → FitsInPlace (λ k. k) before after
form-fits before after stays fine = record {
  entry = stays.entry;
  blocks = record {
    first = refl;
    stays = λ k block placed.
        let back = zip_back (BlockStays before.bits after.bits) before.blocks after.blocks k block stays.blocks placed in
        (back.0, back.1, sym back.2.at);
  };
  formed = λ p formed known. swapped_formed p before after formed known stays fine;
  kept = λ p formed known runs. kept_swapped p before after formed known stays fine runs;
}
