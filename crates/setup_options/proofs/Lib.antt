mod CommandLemmas
mod WorkedCases
