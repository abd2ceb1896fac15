-- The statements of a translated program that set a flag read flags and load plainly.
use Rattle.std.proofs.Common.{◌≡◌, ℕ, suc, ◌+◌, ◌*◌, true, ◌&&◌, List, [], ◌∷◌, All, refl}
use Rattle.std.specs.Prelude.{◌+ℤ◌, pos}
use Rattle.std.specs.List.{list_all}
use Rattle.std.proofs.lemmas.List.Elements.{All-head, All-tail}
use Rattle.dcc_num.specs.declared.Width.TheVariants.{Byte as byte_width}
use Rattle.dcc_machine.specs.declared.image.Image.{Image}
use Rattle.dcc_prog.specs.declared.frame.Program.{Program as Analysed}
use Rattle.dcc_prog.specs.Trail.{IsEntry}
use Rattle.dcc_ir.specs.declared.syntax.Loc.{Loc}
use Rattle.dcc_ir.specs.declared.syntax.Loc.TheVariants.{Half, Flag, Cell, Temp}
use Rattle.dcc_ir.specs.Tree.{Expr, Get, Part, Set, Block, Program}
use Rattle.dcc_ir.specs.FlagReads.{nests_flatly, loads_plainly, FlagsReadPlainly}
use Rattle.dcc_ops.specs.FlagReading.{sets_flags_plainly}
use Rattle.dcc_ops.specs.Temporaries.{returned_place}
use Rattle.dcc_ops.specs.OperandPlace.{OperandPlace, constant, byte, word, memory, address, computed, storing, is_half, is_low, is_high, is_sound_place}
use Rattle.dcc_simulation.specs.Procedures.{Procedure, frame_place, given_back}
use Rattle.dcc_simulation.specs.Statements.{argument_offset, taking_back, taking_all_back}
use Rattle.dcc_lift.specs.Translated.{IsTranslated}
use Rattle.dcc_lift.proofs.ListTests.{and_left, and_right, and_both}
use Rattle.dcc_lift.proofs.FormNodes.{frame-good}
use Rattle.dcc_lift.proofs.FormFlags.{are_plain, plain-append}
use Rattle.dcc_lift.proofs.FormCalls.{all-both}
use Rattle.dcc_lift.proofs.FormScenes.{procedure_at_entry, graph_of_entry}
use Rattle.dcc_lift.proofs.FormBlocks.{IsFormedBlock, all-formed}
use Rattle.dcc_lift.proofs.FormGraphs.{by-work}
use Rattle.dcc_lift.proofs.FormDrawn.{all-graphs}

-- Bytes that come back go to halves or to memory.

half-plain : (location : Loc) (e : Expr) → is_half location ≡ true → sets_flags_plainly (Set location e) ≡ true
half-plain (Half r half) e is = refl
half-plain (Flag f) e is = cc
half-plain (Cell n half) e is = refl
half-plain (Temp n) e is = refl

low-half : (location : Loc) → is_low location ≡ true → is_half location ≡ true
low-half (Half r half) is = refl
low-half (Flag f) is = cc
low-half (Cell n half) is = refl
low-half (Temp n) is = cc

high-half : (location : Loc) → is_high location ≡ true → is_half location ≡ true
high-half (Half r half) is = refl
high-half (Flag f) is = cc
high-half (Cell n half) is = refl
high-half (Temp n) is = cc

storing-plain : (p : OperandPlace) (e : Expr) → is_sound_place p ≡ true → are_plain (storing p e) ≡ true
storing-plain (constant w n) e sound = refl
storing-plain (byte location) e sound =
    and_both (sets_flags_plainly (Set location e)) true (half-plain location e sound) refl
storing-plain (word low high) e sound =
    and_both (sets_flags_plainly (Set low (Part 8 0 e))) (sets_flags_plainly (Set high (Part 8 8 e)) && true)
    (half-plain low (Part 8 0 e) (low-half low (and_left (is_low low) (is_high high) sound)))
    (and_both (sets_flags_plainly (Set high (Part 8 8 e))) true
    (half-plain high (Part 8 8 e) (high-half high (and_right (is_low low) (is_high high) sound))) refl)
storing-plain (memory w at) e sound = refl
storing-plain (address distance) e sound = refl
storing-plain (computed sum) e sound = refl

taking-plain : (caller : Procedure) (height index number : ℕ)
    → are_plain (taking_back caller height index number) ≡ true
taking-plain caller height index number =
    let low = frame_place caller byte_width (argument_offset height number) in
    let high = frame_place caller byte_width (argument_offset height number +ℤ pos 1) in
    plain-append (storing low (Get (returned_place (2 * index)))) (storing high (Get (returned_place (2 * index + 1))))
    (storing-plain low (Get (returned_place (2 * index)))
    (frame-good caller byte_width (argument_offset height number)).sound)
    (storing-plain high (Get (returned_place (2 * index + 1)))
    (frame-good caller byte_width (argument_offset height number +ℤ pos 1)).sound)

taking-all-plain : (caller : Procedure) (height index : ℕ) (numbers : List ℕ)
    → are_plain (taking_all_back caller height index numbers) ≡ true
taking-all-plain caller height index [] = refl
taking-all-plain caller height index (number ∷ numbers) =
    plain-append (taking_back caller height index number) (taking_all_back caller height (suc index) numbers)
    (taking-plain caller height index number) (taking-all-plain caller height (suc index) numbers)

module _ (image : Image) (program : Analysed) (p : Program) (is : IsTranslated image program p) where
  open program use {layout}

  module _ (entry : ℕ) (is_entry : IsEntry image layout entry) where
    abbrev Formed : Block → Type 0
    Formed = IsFormedBlock image program p is entry is_entry

    block-plain : (block : Block) → Formed block → are_plain block.stmts ≡ true
    block-plain block formed =
        by-work image program p is (λ stmts exit. are_plain stmts ≡ true) (λ stmts exit work. work.plain) entry is_entry
        (λ target height place target_entry other small.
        taking-all-plain (procedure_at_entry image program p is entry is_entry) height 0
        (given_back (procedure_at_entry image program p is target target_entry)))
        block.stmts block.exit formed.work

    blocks-plain : (blocks : List Block) → All Formed blocks
        → (list_all (λ (b : Block). list_all nests_flatly b.stmts) blocks ≡ true)
        × (list_all (λ (b : Block). list_all loads_plainly b.stmts) blocks ≡ true)
    blocks-plain [] formed = (refl, refl)
    blocks-plain (block ∷ blocks) formed =
        let here =
        all-both nests_flatly loads_plainly block.stmts (block-plain block (All-head Formed block blocks formed)) in
        let rest = blocks-plain blocks (All-tail Formed block blocks formed) in (
          and_both (list_all nests_flatly block.stmts) (list_all (λ (b : Block). list_all nests_flatly b.stmts) blocks)
              here.0 rest.0,
          and_both (list_all loads_plainly block.stmts)
              (list_all (λ (b : Block). list_all loads_plainly b.stmts) blocks) here.1 rest.1,
        )

    graph-plain : FlagsReadPlainly (graph_of_entry image program p is entry is_entry)
    graph-plain =
        let both =
        blocks-plain (graph_of_entry image program p is entry is_entry).blocks
        (all-formed image program p is entry is_entry) in
        record { flat = both.0; plain = both.1 }

  pub flags-read : All FlagsReadPlainly p.graphs
  flags-read = all-graphs image program p is FlagsReadPlainly graph-plain
