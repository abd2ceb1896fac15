use Rattle.std.proofs.Common.{true, false, arith, ◌≡◌, ◌++◌, refl, sym, ap, ◌∙◌, ◌∷◌, []}
use Rattle.std.proofs.lemmas.Result.{IfErr-weaker}
use Rattle.dcc_run.specs.End.{Exit}
use Rattle.dcc_run.specs.Event.{writes}
use Rattle.dcc_num.specs.declared.Half.TheVariants.{Low, High}
use Rattle.dcc_num.specs.declared.Reg.TheVariants.{Ax, Dx}
use Rattle.dcc_machine.specs.Machine.{half_of_word, word_in}
use Rattle.dcc_machine.specs.Operations.{with_end}
use Rattle.dcc_machine.specs.Dos.{dos_call, dos_string, key_step}
use Rattle.dcc_console.specs.WithConsole.{WithConsole, beside_console}
use Rattle.dcc_step.specs.Core.{Core, core_of, state_of, with_console}
use Rattle.dcc_step.proofs.Scenes.{on_ok, made_as, refused_here, made_quiet, made_writing, refused_writing, leads_quiet, leads_as, numbered, no_call, string-keeps}
use Rattle.dcc_step.proofs.machine.Machine.call_dos.Goals as goal

pub returns-in_default-put_all-clause-refused : goal.returns-in_default-put_all-clause-refused
returns-in_default-put_all-clause-refused g c =
    let m = c.args.self.now in
    let ah : 2 ≡ half_of_word High (word_in (state_of m) Ax) = sym c.in-2.is ∙ c.of.ensures ∙ ap (half_of_word High) c.reg-ax.ensures in
    let byte : c.of-byte.result ≡ half_of_word Low (word_in (state_of m) Dx) = c.of-byte.ensures ∙ ap (half_of_word Low) c.reg.ensures in
    refused_writing (λ cpu. dos_call c.args.at) m (c.of-byte.result ∷ []) _ _ _
    (λ input events. numbered c.args.at 2 m ah input events ∙ ap (λ b. with_console m input (events ++ writes (b ∷ []))) (sym byte))
    c.in_default-put_all.ensures.part

pub returns-in_default-write_string-clause-refused :
    goal.returns-in_default-write_string-clause-refused
returns-in_default-write_string-clause-refused g c =
    let m = c.args.self.now in
    let ah : 9 ≡ half_of_word High (word_in (state_of m) Ax) = sym c.in-9.is ∙ c.of.ensures ∙ ap (half_of_word High) c.reg-ax.ensures in
    refused_writing (λ cpu. dos_call c.args.at) m (dos_string (state_of m)) _ _ _
    (λ input events. numbered c.args.at 9 m ah input events ∙ ap (λ l. with_console m input (events ++ writes l)) (string-keeps m input events))
    c.in_default-write_string.ensures.part

pub returns-in-Ok-clause-made : goal.returns-in-Ok-clause-made
returns-in-Ok-clause-made g c =
    let m = c.args.self.now in
    let ah : 2 ≡ half_of_word High (word_in (state_of m) Ax) = sym c.in-2.is ∙ c.of.ensures ∙ ap (half_of_word High) c.reg-ax.ensures in
    let byte : c.of-byte.result ≡ half_of_word Low (word_in (state_of m) Dx) = c.of-byte.ensures ∙ ap (half_of_word Low) c.reg.ensures in
    made_writing (λ cpu. dos_call c.args.at) m (c.of-byte.result ∷ []) _ _ _
    (λ input events. numbered c.args.at 2 m ah input events ∙ ap (λ b. with_console m input (events ++ writes (b ∷ []))) (sym byte))
    c.in-Ok.ensures.whole

pub returns-in-Ok-write_string-clause-made : goal.returns-in-Ok-write_string-clause-made
returns-in-Ok-write_string-clause-made g c =
    let m = c.args.self.now in
    let ah : 9 ≡ half_of_word High (word_in (state_of m) Ax) = sym c.in-9.is ∙ c.of.ensures ∙ ap (half_of_word High) c.reg-ax.ensures in
    made_writing (λ cpu. dos_call c.args.at) m (dos_string (state_of m)) _ _ _
    (λ input events. numbered c.args.at 9 m ah input events ∙ ap (λ l. with_console m input (events ++ writes l)) (string-keeps m input events))
    c.in-Ok-write_string.ensures.whole

pub returns-in-76-clause-made : goal.returns-in-76-clause-made
returns-in-76-clause-made g c =
    let m = c.args.self.now in
    let ah : 76 ≡ half_of_word High (word_in (state_of m) Ax) = sym c.in-76.is ∙ c.of.ensures ∙ ap (half_of_word High) c.reg-ax.ensures in
    let code : c.of-in-76.result ≡ half_of_word Low (word_in (state_of m) Ax) = c.of-in-76.ensures ∙ ap (half_of_word Low) c.reg-ax.ensures in
    made_quiet (λ cpu. dos_call c.args.at) m c.finish.new.self _ _ (ap (λ (k : Core). k.cpu) c.finish.ensures)
    (λ input events. numbered c.args.at 76 m ah input events
    ∙ ap (λ k. with_end (Exit k) c.args.at (with_console m input events)) (sym code)
    ∙ ap (λ k. with_console k input events) (sym c.finish.ensures))

pub returns-in_default-clause-made : goal.returns-in_default-clause-made
returns-in_default-clause-made g c =
    let m = c.args.self.now in
    let number : c.of.result ≡ half_of_word High (word_in (state_of m) Ax) = c.of.ensures ∙ ap (half_of_word High) c.reg-ax.ensures in
    made_quiet (λ cpu. dos_call c.args.at) m c.finish-in_default.new.self _ _ (ap (λ (k : Core). k.cpu) c.finish-in_default.ensures)
    (λ input events. numbered c.args.at c.of.result m number input events
    ∙ no_call c.of.result c.args.at (with_console m input events) (omega arith) (omega arith) (omega arith) (omega arith) (omega arith)
    ∙ ap (λ k. with_console k input events) (sym c.finish-in_default.ensures))

pub returns-in-1-clause-made : goal.returns-in-1-clause-made
returns-in-1-clause-made g c =
    let m = c.args.self.now in
    let ah : 1 ≡ half_of_word High (word_in (state_of m) Ax) = sym c.in-1.is ∙ c.of.ensures ∙ ap (half_of_word High) c.reg-ax.ensures in
    let now : WithConsole Core = beside_console c.read_key.new.self (g.I.Source.left c.read_key.new.input) (g.O.Sink.taken c.read_key.new.out) in
    on_ok c.read_key.result
    (made_as (λ cpu. key_step true) (λ cpu. dos_call c.args.at) m m (g.I.Source.left c.args.input.now) (g.O.Sink.taken c.args.out.now) now refl (numbered c.args.at 1 m ah))
    c.read_key.ensures.made

pub returns-in-1-clause-refused : goal.returns-in-1-clause-refused
returns-in-1-clause-refused g c =
    let m = c.args.self.now in
    let ah : 1 ≡ half_of_word High (word_in (state_of m) Ax) = sym c.in-1.is ∙ c.of.ensures ∙ ap (half_of_word High) c.reg-ax.ensures in
    IfErr-weaker c.read_key.result _ _
    (λ fault refused.
    refused_here (λ cpu. key_step true) (λ cpu. dos_call c.args.at) fault m c.read_key.new.self (g.I.Source.left c.args.input.now) (g.O.Sink.taken c.args.out.now)
    (g.I.Source.left c.read_key.new.input) (g.O.Sink.taken c.read_key.new.out) (numbered c.args.at 1 m ah) refused)
    c.read_key.ensures.refused

pub returns-in-8-clause-made : goal.returns-in-8-clause-made
returns-in-8-clause-made g c =
    let m = c.args.self.now in
    let ah : 8 ≡ half_of_word High (word_in (state_of m) Ax) = sym c.in-8.is ∙ c.of.ensures ∙ ap (half_of_word High) c.reg-ax.ensures in
    let now : WithConsole Core = beside_console c.read_key-in-8.new.self (g.I.Source.left c.read_key-in-8.new.input) (g.O.Sink.taken c.read_key-in-8.new.out) in
    on_ok c.read_key-in-8.result
    (made_as (λ cpu. key_step false) (λ cpu. dos_call c.args.at) m m (g.I.Source.left c.args.input.now) (g.O.Sink.taken c.args.out.now) now refl (numbered c.args.at 8 m ah))
    c.read_key-in-8.ensures.made

pub returns-in-8-clause-refused : goal.returns-in-8-clause-refused
returns-in-8-clause-refused g c =
    let m = c.args.self.now in
    let ah : 8 ≡ half_of_word High (word_in (state_of m) Ax) = sym c.in-8.is ∙ c.of.ensures ∙ ap (half_of_word High) c.reg-ax.ensures in
    IfErr-weaker c.read_key-in-8.result _ _
    (λ fault refused.
    refused_here (λ cpu. key_step false) (λ cpu. dos_call c.args.at) fault m c.read_key-in-8.new.self (g.I.Source.left c.args.input.now) (g.O.Sink.taken c.args.out.now)
    (g.I.Source.left c.read_key-in-8.new.input) (g.O.Sink.taken c.read_key-in-8.new.out) (numbered c.args.at 8 m ah) refused)
    c.read_key-in-8.ensures.refused

pub returns-in-Ok-clause-bytes : goal.returns-in-Ok-clause-bytes
returns-in-Ok-clause-bytes g c =
    let m = c.args.self.now in
    let ah : 2 ≡ half_of_word High (word_in (state_of m) Ax) = sym c.in-2.is ∙ c.of.ensures ∙ ap (half_of_word High) c.reg-ax.ensures in
    leads_quiet (λ cpu. dos_call c.args.at) m m (ap (core_of m.cpu) (numbered c.args.at 2 m ah [] []))

pub returns-in-Ok-write_string-clause-bytes : goal.returns-in-Ok-write_string-clause-bytes
returns-in-Ok-write_string-clause-bytes g c =
    let m = c.args.self.now in
    let ah : 9 ≡ half_of_word High (word_in (state_of m) Ax) = sym c.in-9.is ∙ c.of.ensures ∙ ap (half_of_word High) c.reg-ax.ensures in
    leads_quiet (λ cpu. dos_call c.args.at) m m (ap (core_of m.cpu) (numbered c.args.at 9 m ah [] []))

pub returns-in-76-clause-bytes : goal.returns-in-76-clause-bytes
returns-in-76-clause-bytes g c =
    let m = c.args.self.now in
    let ah : 76 ≡ half_of_word High (word_in (state_of m) Ax) = sym c.in-76.is ∙ c.of.ensures ∙ ap (half_of_word High) c.reg-ax.ensures in
    let code : c.of-in-76.result ≡ half_of_word Low (word_in (state_of m) Ax) = c.of-in-76.ensures ∙ ap (half_of_word Low) c.reg-ax.ensures in
    leads_quiet (λ cpu. dos_call c.args.at) m c.finish.new.self
    (ap (core_of m.cpu) (numbered c.args.at 76 m ah [] [])
    ∙ ap (λ k. core_of m.cpu (with_end (Exit k) c.args.at (state_of m))) (sym code)
    ∙ sym c.finish.ensures)

pub returns-in_default-clause-bytes : goal.returns-in_default-clause-bytes
returns-in_default-clause-bytes g c =
    let m = c.args.self.now in
    let number : c.of.result ≡ half_of_word High (word_in (state_of m) Ax) = c.of.ensures ∙ ap (half_of_word High) c.reg-ax.ensures in
    leads_quiet (λ cpu. dos_call c.args.at) m c.finish-in_default.new.self
    (ap (core_of m.cpu) (numbered c.args.at c.of.result m number [] [])
    ∙ ap (core_of m.cpu) (no_call c.of.result c.args.at (state_of m) (omega arith) (omega arith) (omega arith) (omega arith) (omega arith))
    ∙ sym c.finish-in_default.ensures)

pub returns-in-1-clause-bytes : goal.returns-in-1-clause-bytes
returns-in-1-clause-bytes g c =
    let m = c.args.self.now in
    let ah : 1 ≡ half_of_word High (word_in (state_of m) Ax) = sym c.in-1.is ∙ c.of.ensures ∙ ap (half_of_word High) c.reg-ax.ensures in
    on_ok c.read_key.result
    (leads_as (λ cpu. key_step true) (λ cpu. dos_call c.args.at) m m c.read_key.new.self refl (numbered c.args.at 1 m ah))
    c.read_key.ensures.bytes

pub returns-in-8-clause-bytes : goal.returns-in-8-clause-bytes
returns-in-8-clause-bytes g c =
    let m = c.args.self.now in
    let ah : 8 ≡ half_of_word High (word_in (state_of m) Ax) = sym c.in-8.is ∙ c.of.ensures ∙ ap (half_of_word High) c.reg-ax.ensures in
    on_ok c.read_key-in-8.result
    (leads_as (λ cpu. key_step false) (λ cpu. dos_call c.args.at) m m c.read_key-in-8.new.self refl (numbered c.args.at 8 m ah))
    c.read_key-in-8.ensures.bytes
