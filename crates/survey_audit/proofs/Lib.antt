mod TallyLemmas
mod FoundLemmas
mod SurveyCases
