-- Accesses as the code keeps them.
use Rattle.std.specs.Prelude.{◌+◌, ◌*◌, nat_le, Bool, true, false, not, ◌&&◌, ◌||◌, List, map}
use Rattle.std.specs.List.{filter}
use Rattle.dcc_machine.specs.declared.instr.Operand.{Operand}
use Rattle.dcc_machine.specs.declared.instr.Operand.TheVariants.{Mem}
use Rattle.dcc_machine.specs.declared.instr.Op.{Op}
use Rattle.dcc_machine.specs.declared.instr.Op.TheVariants.{Alu, Unary, Shift, Mov, Xchg, Lea, Imul3, Jump, Branch}
use Rattle.dcc_machine.specs.declared.instr.Op.TheVariants.{Loop, LoopE, LoopNe, Jcxz}
use Rattle.dcc_prog.specs.declared.procedure.Layout.{Layout}
use Rattle.dcc_machine.specs.Access as told
use Rattle.dcc_watch.specs.declared.access.Direction.{Direction}
use Rattle.dcc_watch.specs.declared.access.Direction.TheVariants.{Reading, Writing}
use Rattle.dcc_watch.specs.declared.access.Kind.{Kind}
use Rattle.dcc_watch.specs.declared.access.Kind.TheVariants.{OfStack, OfFrame, Other}
use Rattle.dcc_watch.specs.declared.access.Access.{Access}

abbrev pub direction_of : Direction → told.Direction
direction_of Reading = told.Reading
direction_of Writing = told.Writing

abbrev pub kind_of : Kind → told.Kind
kind_of OfStack = told.OfStack
kind_of OfFrame = told.OfFrame
kind_of Other = told.Other

-- the access of the definitions that an access of the code stands for
abbrev pub access_of : Access → told.Access
access_of access = record {
  direction = direction_of access.direction;
  kind = kind_of access.kind;
  segment = access.segment;
  offset = access.offset;
  size = access.size;
}

abbrev pub accesses_of : List Access → List told.Access
accesses_of list = map access_of list

-- the operand lies in memory
abbrev pub is_memory : Operand → Bool
is_memory (Mem width ea) = true
is_memory operand = false

-- an operation that may come to memory, as far as its form tells
abbrev pub may_access : Op → Bool
may_access (Alu kind a b) = is_memory a || is_memory b
may_access (Mov to from) = is_memory to || is_memory from
may_access (Xchg a b) = is_memory a || is_memory b
may_access (Unary kind a) = is_memory a
may_access (Shift kind a count) = is_memory a
may_access (Imul3 r a constant) = is_memory a
may_access (Lea r ea) = false
may_access (Jump target) = false
may_access (Branch condition target) = false
may_access (Loop target) = false
may_access (LoopE target) = false
may_access (LoopNe target) = false
may_access (Jcxz target) = false
may_access op = true

-- The access lies beside the stack, as its two ends tell: it wraps neither in its segment nor in memory, and ends
-- before the stack or begins after it.
abbrev pub is_beside : Layout → told.Access → Bool
is_beside layout access =
    nat_le (access.offset + access.size) 65536
    && (nat_le (access.segment * 16 + access.offset + access.size) 1048576
    && (nat_le (access.segment * 16 + access.offset + access.size) (layout.ds * 16 + layout.lo)
    || nat_le (layout.ds * 16 + layout.hi) (access.segment * 16 + access.offset)))

-- the accesses of a list that may touch the stack
unfoldable pub near : Layout → List told.Access → List told.Access
near layout list = filter (λ access. not (is_beside layout access)) list
