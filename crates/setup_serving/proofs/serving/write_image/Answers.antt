use Rattle.std.proofs.Common.{length, arith, subst, sym}
use Rattle.std.proofs.Math.Seq.{take-length}
use Rattle.std.proofs.KnownBytes.{Appends-kept}
use Rattle.std.specs.Io.KnownBytes.{Appends}
use Rattle.hii_varstore.specs.Image.{image_of}
use Rattle.setup_serving.proofs.serving.write_image.Goals as goal

pub returns-in_default-clause-told : goal.returns-in_default-clause-told
returns-in_default-clause-told g c =
    let stops = c.in_default.ensures in
    record { part = stops.part; within = stops.within; appended = stops.appended; broken = stops.broken }

pub returns-in-Err-clause-told : goal.returns-in-Err-clause-told
returns-in-Err-clause-told g c =
    let image = image_of c.args.stores.now in
    record {
      part = length image;
      within = omega arith;
      appended = subst (Appends _ _) (sym (take-length image)) (Appends-kept _ _ _ image c.in-Ok.ensures.0 c.in-Err.ensures.bytes);
      broken = c.in-Err.ensures.fault;
    }
