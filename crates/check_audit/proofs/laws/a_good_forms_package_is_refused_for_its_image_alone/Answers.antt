use Rattle.check_audit.proofs.SessionLemmas.{image_alone}
use Rattle.check_audit.proofs.laws.a_good_forms_package_is_refused_for_its_image_alone.Goals as goal

pub returns : goal.returns
returns c = λ list n source image cause place none found good. image_alone list n source image cause place none found good
