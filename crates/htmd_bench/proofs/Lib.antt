-- Lemmas about the lengths of answers.
mod WorkLemmas
