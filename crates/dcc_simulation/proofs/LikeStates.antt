-- States of the machine that differ in SP, BP, the instruction pointer and memory alone: where the runs agree in one, and
-- the frames are held in the other, they agree there.
use Rattle.std.proofs.Common.{◌≡◌, ℕ, ◌+◌, ◌*◌, Bool, true, false, List, ◌∷◌, refl, sym, ap₂, ◌∙◌, subst}
use Rattle.dcc_run.specs.End.{Running}
use Rattle.dcc_num.specs.declared.Reg.{Reg}
use Rattle.dcc_num.specs.declared.Reg.TheVariants.{Sp, Bp}
use Rattle.dcc_num.specs.declared.Half.TheVariants.{Low, High}
use Rattle.dcc_num.specs.declared.FlagName.TheVariants.{Cf, Zf, Sf, Of}
use Rattle.dcc_machine.specs.Machine.{State as Machine, word_in, with_word_in, is_general}
use Rattle.dcc_machine.specs.Operations.{after_jump}
use Rattle.dcc_prog.specs.Clean.{top_in}
use Rattle.dcc_machine.proofs.LocationKept.{word-other}
use Rattle.dcc_stack.specs.Standing.{Activation, HoldsSegments}
use Rattle.dcc_stack.specs.SlotLaws.{AreCarried}
use Rattle.dcc_ir.specs.Run.{State}
use Rattle.dcc_ops.specs.Coupling.{HoldFlags}
use Rattle.dcc_simulation.specs.Coupled.{Setting, typed_by, typed_waiting, IsActivationOf, AreWaiting, Coupled}
use Rattle.dcc_simulation.specs.Calls.{Passes}
use Rattle.dcc_simulation.proofs.Coupling.{registers-apart}

-- a state has all that another has, but for SP, BP and the instruction pointer
pub record IsLike (s u : Machine) : Type 0 where
  pub end : u.end ≡ s.end
  pub memory : u.memory ≡ s.memory
  pub flags : u.flags ≡ s.flags
  pub input : u.input ≡ s.input
  pub events : u.events ≡ s.events
  pub words : (r : Reg) → is_general r ≡ true → word_in u r ≡ word_in s r

pub like-both : (s u v : Machine) → IsLike s u → IsLike u v → IsLike s v
like-both s u v first second = record {
  end = second.end ∙ first.end;
  memory = second.memory ∙ first.memory;
  flags = second.flags ∙ first.flags;
  input = second.input ∙ first.input;
  events = second.events ∙ first.events;
  words = λ r g. second.words r g ∙ first.words r g;
}

-- SP or BP takes a word, with the instruction pointer anywhere and any memory
pointer-set : (s : Machine) (pointer : Reg) (word ip : ℕ) (memory : List ℕ) → is_general pointer ≡ false
    → IsLike (record s { memory = memory }) (record (with_word_in s pointer word) { ip = ip; memory = memory })
pointer-set s pointer word ip memory is = record {
  end = refl;
  memory = refl;
  flags = refl;
  input = refl;
  events = refl;
  words = λ r g. word-other s pointer r word (registers-apart r pointer true g is);
}

pub sp-set : (s : Machine) (sp : ℕ) → IsLike s (with_word_in s Sp sp)
sp-set s sp = pointer-set s Sp sp s.ip s.memory refl

pub bp-set : (s : Machine) (bp : ℕ) → IsLike s (with_word_in s Bp bp)
bp-set s bp = pointer-set s Bp bp s.ip s.memory refl

-- SP takes a word where memory changes, and the machine goes on elsewhere
pub jumped : (s : Machine) (ip sp target : ℕ) (memory : List ℕ)
    → IsLike (record s { memory = memory })
    (after_jump target (record (with_word_in (record s { ip = ip }) Sp sp) { memory = memory }))
jumped s ip sp target memory = pointer-set s Sp sp target memory refl

-- an inner run that stays as it is
pub stays-itself : (t : State) → Passes t t
stays-itself t = record { halves = λ r half g. refl; flags = λ flag. refl; input = refl; events = refl }

module _ (e : Setting) (a c : Activation) (callers older : List Activation) (written marks : List Bool)
    (s after : Machine) (memory : List ℕ) (t u : State) (like : IsLike (record s { memory = memory }) after)
    (passes : Passes t u) (before : Coupled e a callers written s t) where
  abbrev Carried : List ℕ → Type 0
  Carried held =
      AreCarried e.cpu e.image e.program held u.memory marks (top_in e.program.layout after)
      (typed_by e c u.running ∷ typed_waiting e older u.waiting)

  flags-held : HoldFlags s.flags u.running.values
  flags-held = record {
    carry = passes.flags Cf ∙ before.flags.carry;
    zero = passes.flags Zf ∙ before.flags.zero;
    negative = passes.flags Sf ∙ before.flags.negative;
    overflow = passes.flags Of ∙ before.flags.overflow;
  }

  pub coupled-after : u.end ≡ Running → IsActivationOf e c u.running → AreWaiting e c older u.waiting
      → HoldsSegments e.image e.program.layout after
      → AreCarried e.cpu e.image e.program memory u.memory marks (top_in e.program.layout after)
      (typed_by e c u.running ∷ typed_waiting e older u.waiting)
      → Coupled e c older marks after u
  coupled-after running newest waiting segments carried = record {
    goes = like.end ∙ before.goes;
    running = running;
    newest = newest;
    waiting = waiting;
    words = λ r g.
        like.words r g ∙ before.words r g
        ∙ ap₂ (λ high low. high * 256 + low) (sym (passes.halves r High g)) (sym (passes.halves r Low g));
    flags = subst (λ flags. HoldFlags flags u.running.values) (sym like.flags) flags-held;
    input = passes.input ∙ before.input ∙ sym like.input;
    events = passes.events ∙ before.events ∙ sym like.events;
    segments = segments;
    carried = subst Carried (sym like.memory) carried;
  }
