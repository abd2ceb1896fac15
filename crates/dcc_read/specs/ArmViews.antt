-- What the declared type of the beginning of an arm stands for.
use Rattle.std.specs.Prelude.{map}
use Rattle.dcc_c.specs.ReadingStatements as statements
use Rattle.dcc_reader.specs.PartialViews.{case_of}
use Rattle.dcc_read.specs.declared.arm.ArmHead.{ArmHead}

abbrev pub arm_head_of : ArmHead → statements.ArmHead
arm_head_of head = record { numbers = map case_of head.numbers.items; default = head.default }
