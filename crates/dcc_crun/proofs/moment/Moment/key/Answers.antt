use Rattle.std.proofs.Common.{refl, ap, Err}
use Rattle.dcc_crun.proofs.StepLaws.{made_faults}
use Rattle.dcc_crun.proofs.DosLaws.{key_made, key_refused, key_stays, key_faults}
use Rattle.dcc_crun.proofs.moment.Moment.key.Goals as goal

pub returns-in_err-byte : goal.returns-in_err-byte
returns-in_err-byte g c =
    let fault = c.in_err-byte.field-0.0 in
    let is = c.from_residual.ensures.1 in
    record {
      comes = λ line. key_refused c.args.self.now c.args.echo c.args.target line _ _ _ _ fault c.from_residual.result is c.in_err-byte.ensures.refused;
      stays = key_stays c.args.self.now fault c.from_residual.result is;
      at = record { procedure = refl; at = refl };
      faults = key_faults fault c.from_residual.result is c.take_key.ensures.input_faults c.take_key.ensures.output_faults
          (λ same. c.in_err-byte.ensures.read_failed (ap Err same)) (λ same. c.in_err-byte.ensures.write_failed (ap Err same));
    }

pub returns : goal.returns
returns g c = record {
  comes = λ line.
      key_made c.args.self.now c.take_byte.new.self c.args.echo c.args.target line c.in_ok-byte.byte _ _ _ _ c.in_ok-byte.ensures.taken
      (λ tree points s state lands. c.take_byte.ensures.state tree points s line state lands);
  stays = tt;
  at = c.take_byte.ensures.at;
  faults = made_faults _ refl c.take_key.ensures.input_faults c.take_key.ensures.output_faults;
}
