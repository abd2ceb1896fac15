-- Accepted programs are in form.
use Rattle.dcc_prog.specs.Height.{gone_on}
use Rattle.dcc_stack.specs.Accepted.{AcceptedProgramsAreInForm}
use Rattle.dcc_stack.proofs.FormHeights.{heights-fit, one-height, moved-there, frame-stays, removes-count}
use Rattle.dcc_stack.proofs.FormNodes.{node-at}
use Rattle.dcc_stack.proofs.FormFrames.{frame-for, access-in_frame, start-good, passes-own}

pub in-form : AcceptedProgramsAreInForm
in-form = record {
  heights = λ cpu image program entry at before height p is. heights-fit cpu image program p entry at before height is;
  one_height = λ cpu image program entry at before before' height height' p is is'.
      one-height cpu image program p entry at before before' height height' is is';
  nodes = λ cpu image program entry at before height p is. node-at cpu image program p entry at before height is;
  moved = λ cpu image program entry at before height op p is stands no_ret.
      moved-there cpu image program p entry at before height op is stands no_ret;
  stays = λ cpu image program entry at before height after op p is stands moves framed stays.
      frame-stays cpu image program p entry at before height op is stands after moves framed stays;
  goes_on = λ cpu image program entry at next before op height after p is stands moves among. record {
    is_entry = is.is_entry;
    trail = (among, is.trail);
    gives = gone_on (among, is.trail) is.gives stands moves;
  };
  removed = λ cpu image program entry at count bytes before height p is stands removed.
      removes-count cpu image program p entry at count bytes before height is stands removed;
  accesses = λ cpu image program entry at before height span p is access.
      access-in_frame cpu image program p entry at before height is span access;
  starts = λ cpu image program entry at before height start p is starts.
      start-good cpu image program p entry at before height is start starts;
  arguments = λ cpu image program entry at target count before height p is stands arguments.
      passes-own cpu image program p entry at before height is target stands count arguments;
  frames = λ cpu image program entry p is_entry. frame-for cpu image program p entry is_entry;
}
