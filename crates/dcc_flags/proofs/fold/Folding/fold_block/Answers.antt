use Rattle.std.proofs.Common.{◌≡◌, ℕ, ◌<◌, ◌++◌, List, length, map, get_or, slice_set, subst, ap, sym, ◌∙◌}
use Rattle.std.proofs.lemmas.List.{map-set, get_or-map}
use Rattle.dcc_ir.specs.Tree.{Stmt, Exit, Block, Graph}
use Rattle.dcc_ir.specs.Flow.{targets}
use Rattle.dcc_ir.specs.Live.{block_in}
use Rattle.dcc_ir.specs.Views.{stmt_of, exit_of, block_of, graph_of}
use Rattle.dcc_ir.specs.declared.syntax.Block.{Block as BlockOf}
use Rattle.dcc_flags.specs.declared.kept.Kept.{Kept}
use Rattle.dcc_flags.specs.Folding as spec
use Rattle.dcc_flags.specs.Folding.{Choices, Folding, choices_of, folding_of, first_choices, stmts_folded, exit_with_choices, given_to}
use Rattle.dcc_flags.proofs.fold.Folding.fold_block.Goals as goal

-- what stands at a place
at : {A B : Type 0} (f : A → B) (l : List A) (k : ℕ) (x : A) (none : B) → k < length l → x ≡ get_or l k x → get_or (map f l) k none ≡ f x
at f l k x none inside read = get_or-map f l k x none inside ∙ ap f (sym read)

-- a block and its choices, read and folded
done :
    (kept : Kept) (graph : Graph) (none : Choices) (s : Folding) (place : ℕ) (b : Block) (c : Choices)
    (bits : List ℕ) (stmts : List Stmt) (choices : Choices) (exit : Exit) (given : List Choices)
    → block_in graph place ≡ b → get_or s.given place none ≡ c
    → stmts ≡ (stmts_folded kept s.bits c b.stmts).stmts → bits ≡ s.bits ++ (stmts_folded kept s.bits c b.stmts).widths
    → exit ≡ exit_with_choices choices b.exit → given ≡ given_to choices s.given (targets b.exit)
    → choices ≡ (stmts_folded kept s.bits c b.stmts).choices
    → record { bits = bits; given = given; blocks = slice_set s.blocks place (record { at = b.at; stmts = stmts; exit = exit }) }
    ≡ spec.fold_block kept graph none s place
done kept graph none s place b c bits stmts choices exit given is_block is_choice is_stmts is_bits is_exit is_given is_choices =
    rw (is_stmts, is_bits, is_exit, is_given, is_choices, ← is_choice, ← is_block)

pub returns-clause-folding : goal.returns-clause-folding
returns-clause-folding c =
    let self = c.args.self in
    let g = c.args.g.now in
    let place = c.args.place in
    let none = first_choices self.kept (length g.bits.items) in
    let block = c.index-block.result.now in
    let choice = c.index.result.now in
    let choices = choices_of c.fold_stmts.new.choices in
    let is_block : block_in (graph_of g) place ≡ block_of block =
    at block_of g.blocks.items place block _ c.requires.place c.index-block.ensures in
    let is_choice : get_or (folding_of self).given place none ≡ choices_of choice =
    at choices_of self.given.items place choice none (subst (λ n. place < n) (sym c.requires.given) c.requires.place) c.index.ensures in
    let made : BlockOf = record { at = block.at; stmts = c.fold_stmts.new.self.stmts; end = c.in_ok-end.end } in
    let stmts = map stmt_of c.fold_stmts.new.self.stmts.items in
    let folded = stmts_folded self.kept self.bits.items (choices_of choice) (map stmt_of block.stmts.items) in
    let given = map choices_of c.give.new.given.items in
    let told = stmts_folded self.kept self.bits.items (choices_of c.in_ok-choices.choices) (map stmt_of c.as_slice.result.now) in
    let same : told ≡ folded =
    ap (λ x. stmts_folded self.kept self.bits.items x (map stmt_of c.as_slice.result.now)) c.in_ok-choices.ensures
    ∙ ap (λ l. stmts_folded self.kept self.bits.items (choices_of choice) (map stmt_of l)) c.as_slice.ensures.value in
    let is_stmts : stmts ≡ folded.stmts =
    c.in_ok-fold_stmts.ensures.stmts ∙ ap (λ l. map stmt_of l ++ told.stmts) c.new.ensures.items ∙ ap (λ f. f.stmts) same in
    let is_bits : c.fold_stmts.new.self.bits.items ≡ self.bits.items ++ folded.widths =
    c.in_ok-fold_stmts.ensures.bits ∙ ap (λ f. self.bits.items ++ f.widths) same in
    let is_choices : choices ≡ folded.choices = c.in_ok-fold_stmts.ensures.choices ∙ ap (λ f. f.choices) same in
    let is_given : given ≡ given_to choices (map choices_of self.given.items) (targets (exit_of block.end)) =
    c.in_ok-give.ensures ∙ ap (given_to choices (map choices_of self.given.items)) (c.requires.next ∙ ap (λ b. targets b.exit) is_block) in
    ap (λ l. record { bits = c.fold_stmts.new.self.bits.items; given = given; blocks = l }) (map-set block_of self.blocks.items place made)
    ∙ done self.kept (graph_of g) none (folding_of self) place (block_of block) (choices_of choice) c.fold_stmts.new.self.bits.items
    stmts choices (exit_of c.in_ok-end.end) given is_block is_choice is_stmts is_bits c.in_ok-end.ensures is_given is_choices
