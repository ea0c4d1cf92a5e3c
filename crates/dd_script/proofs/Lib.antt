mod KeywordsLemmas
mod Int64Lemmas
mod FrontLemmas
mod ManyLemmas
mod ViewStepsLemmas
mod ArgumentStepsLemmas
mod FormStepsLemmas
mod GatheredLemmas
pub mod ReadsLemmas
mod StatementExamples
pub mod OneLemmas
pub mod AnswersLemmas
pub mod ShortLemmas
