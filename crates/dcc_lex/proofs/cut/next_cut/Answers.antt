use Rattle.std.proofs.Common.{◌≡◌, ◌+◌, true, false, get_or, ap, drop, length-drop, refl, subst, sym, take, ◌∙◌, arith}
use Rattle.std.proofs.Math.Seq.{take-length}
use Rattle.dcc_c.specs.Lexing.{is_blank}
use Rattle.dcc_lex.specs.CutViews.{spot_of, cut_of, has_number, Continues}
use Rattle.dcc_lex.proofs.Cuts.{feed_goes, number_goes, blanks_go, token_goes, if_none}
use Rattle.dcc_lex.proofs.cut.next_cut.Goals as goal

pub returns-then-first-eq10-clause-continues : goal.returns-then-first-eq10-clause-continues
returns-then-first-eq10-clause-continues c =
    let rest = drop 1 c.args.bytes.now in
    let all = ap (λ n. take n rest) (sym (length-drop 1 c.args.bytes.now)) ∙ take-length rest in
    let goes = feed_goes (spot_of c.args.spot) c.args.line (c.args.line + 1) c.args.bytes.now _ c.requires.some c.if-first-eq10.true refl all in
    subst (Continues (spot_of c.args.spot) c.args.line c.args.bytes.now) (sym c.without_piece.ensures.cut) goes

pub returns-in-Some-clause-continues : goal.returns-in-Some-clause-continues
returns-in-Some-clause-continues c =
    let (is, same) = c.in-Some.ensures in
    (number_goes (spot_of c.args.spot) c.args.line c.args.bytes.now c.if-first-eq10.false is (cut_of c.in-Some.cut) same).0

pub returns-then-is_blank-clause-continues : goal.returns-then-is_blank-clause-continues
returns-then-is_blank-clause-continues c =
    let blank : is_blank (get_or c.args.bytes.now 0 0) ≡ true = sym c.is_blank.ensures ∙ c.if-is_blank.true in
    let none : has_number (spot_of c.args.spot) c.args.bytes.now ≡ false = if_none c.number_cut.result _ _ c.number_cut.ensures c.in_default.not-Some in
    (blanks_go (spot_of c.args.spot) c.args.line c.args.bytes.now c.requires.some none blank (cut_of c.blank_cut.result) c.blank_cut.ensures).0

pub returns-then-is_blank-clause-shorter : goal.returns-then-is_blank-clause-shorter
returns-then-is_blank-clause-shorter c =
    let blank : is_blank (get_or c.args.bytes.now 0 0) ≡ true = sym c.is_blank.ensures ∙ c.if-is_blank.true in
    let none : has_number (spot_of c.args.spot) c.args.bytes.now ≡ false = if_none c.number_cut.result _ _ c.number_cut.ensures c.in_default.not-Some in
    (blanks_go (spot_of c.args.spot) c.args.line c.args.bytes.now c.requires.some none blank (cut_of c.blank_cut.result) c.blank_cut.ensures).1

pub returns-clause-continues : goal.returns-clause-continues
returns-clause-continues c =
    let other : is_blank (get_or c.args.bytes.now 0 0) ≡ false = sym c.is_blank.ensures ∙ c.if-is_blank.false in
    let none : has_number (spot_of c.args.spot) c.args.bytes.now ≡ false = if_none c.number_cut.result _ _ c.number_cut.ensures c.in_default.not-Some in
    (token_goes (spot_of c.args.spot) c.args.line c.args.bytes.now c.requires.some c.if-first-eq10.false none other (cut_of c.token_cut.result) c.token_cut.ensures).0

pub returns-clause-shorter : goal.returns-clause-shorter
returns-clause-shorter c =
    let other : is_blank (get_or c.args.bytes.now 0 0) ≡ false = sym c.is_blank.ensures ∙ c.if-is_blank.false in
    let none : has_number (spot_of c.args.spot) c.args.bytes.now ≡ false = if_none c.number_cut.result _ _ c.number_cut.ensures c.in_default.not-Some in
    (token_goes (spot_of c.args.spot) c.args.line c.args.bytes.now c.requires.some c.if-first-eq10.false none other (cut_of c.token_cut.result) c.token_cut.ensures).1

pub returns-clause-line : goal.returns-clause-line
returns-clause-line c =
    let other : is_blank (get_or c.args.bytes.now 0 0) ≡ false = sym c.is_blank.ensures ∙ c.if-is_blank.false in
    let none : has_number (spot_of c.args.spot) c.args.bytes.now ≡ false = if_none c.number_cut.result _ _ c.number_cut.ensures c.in_default.not-Some in
    let here : c.token_cut.result.line ≡ c.args.line =
    (token_goes (spot_of c.args.spot) c.args.line c.args.bytes.now c.requires.some c.if-first-eq10.false none other (cut_of c.token_cut.result) c.token_cut.ensures).2 in omega
    arith
