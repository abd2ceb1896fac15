use Rattle.std.proofs.Common.{◌≤◌, [], ◌∷◌, length, sym, arith}
use Rattle.dcc_list.specs.Text.{head_line, text_of}
use Rattle.dcc_list.proofs.Ready.{program-whole, ready}
use Rattle.dcc_list.proofs.Advancing.{advance-more, advance-whole}
use Rattle.dcc_list.proofs.lister.listing.Goals as goal

pub push_next-requires-clause-whole : goal.push_next-requires-clause-whole
push_next-requires-clause-whole c = program-whole c.args.program.now.layout.cpu c.args.image.now c.args.program.now c.requires.found

pub loop-place-preserved : goal.loop-place-preserved
loop-place-preserved c = (
  c.in_ok-place.ensures.further.1,
  λ prelude is.
      advance-more c.args.image.now c.args.program.now prelude 0 c.loop-place.place c.in_ok-place.place
      (text_of (head_line c.args.program.now.layout.cpu c.args.image.now.cs ∷ [])) c.loop-place.text.items c.push_next.new.text.items
      (c.loop-place.invariant.1 prelude is) (c.in_ok-place.ensures.advances prelude is),
)

pub returns : goal.returns
returns c =
    let image = c.args.image.now in
    let program = c.args.program.now in
    let found = c.requires.found in
    let prelude = (found.layout).prelude in
    let is_prelude = (found.layout).is_prelude in
    let are = c.in_ok-marks.ensures.marks prelude is_prelude.run (sym ((found.layout).left).start_ip) in
    let past : length image.bytes.items ≤ c.loop-place.place = omega (arith, c.loop-place-test.false) in
    advance-whole image program prelude c.loop-place.place c.loop-place.text.items is_prelude
    (c.loop-place.invariant.1 prelude (ready image program found c.in_ok-marks.marks are)) past
