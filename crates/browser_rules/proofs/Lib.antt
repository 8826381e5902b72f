mod LeastLemmas
mod CaseWords
mod cases
mod RenewedCases
mod AtFaultCases
mod SeriesCases
