use Rattle.open_samples.proofs.Slide.{slide_stands, slide_stands_still}
use Rattle.open_samples.proofs.open_slide.Goals as goal

pub returns : goal.returns
returns c = record { stands = slide_stands; still = slide_stands_still }
