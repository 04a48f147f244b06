mod VerbLaws
