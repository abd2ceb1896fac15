use Rattle.std.proofs.Common.{◌≡◌, false, sym, ap₂, subst, ◌∙◌}
use Rattle.dcc_ir.specs.Tree.{Set as SetOf}
use Rattle.dcc_ir.specs.Use.{reads_of}
use Rattle.dcc_ir.specs.Live.{is_among}
use Rattle.dcc_ir.specs.Views.{expr_of}
use Rattle.dcc_words.specs.declared.roles.Role.TheVariants.{Low, High}
use Rattle.dcc_words.specs.Words.{set_word, IsSetOfBoth, lower_first, upper_first}
use Rattle.dcc_words.specs.Roles.{role_of}
use Rattle.dcc_words.proofs.StepLaws.{not-among}
use Rattle.dcc_words.proofs.rewriting.Rewriter.joined_sets.Goals as goal

pub returns-in-Low-High : goal.returns-in-Low-High
returns-in-Low-High c =
    let role = role_of c.args.self.now.roles.now in
    let word = c.in-Low-High.word in
    let is : role c.args.first ≡ Low word = (let a = c.in-Low-High.ensures in let b = c.in-Low-High.is-0 in let r = c.role.ensures in cc) in
    let is' : role c.args.second ≡ High word =
    (let a = c.in-Low-High.ensures' in let b = c.in-Low-High.is-1 in let r = c.role-then-not-reads.ensures in let w = c.if-word-other.true in cc) in
    let none : is_among (reads_of (expr_of c.args.f)) c.args.first ≡ false =
    (let a = c.reads.ensures in let b = c.if-not-reads.true in cc) in
    subst (IsSetOfBoth role (SetOf c.args.first (expr_of c.args.e)) (SetOf c.args.second (expr_of c.args.f)))
    (sym (c.in_ok-word-in-Low-High.ensures
    ∙ ap₂ (λ high low. set_word word high low) c.in_ok-high-in-Low-High.ensures c.in_ok-low-in-Low-High.ensures))
    (lower_first is is' (not-among (reads_of (expr_of c.args.f)) c.args.first none))

pub returns-in-High-Low : goal.returns-in-High-Low
returns-in-High-Low c =
    let role = role_of c.args.self.now.roles.now in
    let word = c.in-High-Low.word in
    let is : role c.args.first ≡ High word = (let a = c.in-High-Low.ensures in let b = c.in-High-Low.is-0 in let r = c.role.ensures in cc) in
    let is' : role c.args.second ≡ Low word =
    (let a = c.in-High-Low.ensures' in let b = c.in-High-Low.is-1 in let r = c.role-then-not-reads.ensures in let w = c.if-word-other-2.true in cc) in
    let none : is_among (reads_of (expr_of c.args.f)) c.args.first ≡ false =
    (let a = c.reads.ensures in let b = c.if-not-reads.true in cc) in
    subst (IsSetOfBoth role (SetOf c.args.first (expr_of c.args.e)) (SetOf c.args.second (expr_of c.args.f)))
    (sym (c.in_ok-word-in-High-Low.ensures
    ∙ ap₂ (λ high low. set_word word high low) c.in_ok-high-in-High-Low.ensures c.in_ok-low-in-High-Low.ensures))
    (upper_first is' is (not-among (reads_of (expr_of c.args.f)) c.args.first none))
