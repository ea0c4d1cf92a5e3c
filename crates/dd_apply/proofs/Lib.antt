mod AppliedLemmas
